-- A type's version 1 form in two: what it begins with, and what follows.
use Rattle.std.specs.Prelude.{[]}
use Rattle.layout.specs.Bytes.{Bytes}
use Rattle.layout.specs.Tree.{DataType, leaf, struct}
use Rattle.layout.specs.Tree.{list, array, count_fields}
use Rattle.layout.specs.Layout.{Head, a_leaf, a_struct, a_list, an_array}
use Rattle.forms.specs.Form.{form, form_fields}

-- what a type begins with, and the form of what follows: a struct's columns or an element
unfoldable pub head_of : DataType → Head
head_of (leaf l) = a_leaf l
head_of (struct fs) = a_struct (count_fields fs)
head_of (list t) = a_list
head_of (array w t) = an_array w

unfoldable pub rest_form : DataType → Bytes
rest_form (leaf l) = []
rest_form (struct fs) = form_fields fs
rest_form (list t) = form t
rest_form (array w t) = form t
