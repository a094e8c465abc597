-- Document 01, "Types in plans drop ids and element names" and "type (version 1 form)": the bytes that a version 1
-- layout has for a type.
use Rattle.std.specs.Prelude.{ℕ, ◌/◌, ◌%◌, [], ◌∷◌, ◌++◌, length}
use Rattle.layout.specs.Bytes.{Bytes}
use Rattle.layout.specs.Tree.{LeafType, leaf_of, null, boolean, integer, float, date, datetime, string, binary, categorical, decimal, DataType, leaf, struct}
use Rattle.layout.specs.Tree.{list, array, Fields, fnil, fcons, count_fields}
use Rattle.layout.specs.Layout.{Head, a_leaf, a_struct, a_list, an_array, code_of, unit_code}

-- Numbers are little-endian. The last byte is not cut to eight bits: a number that fits its field has the field's bytes
-- (`little-u16`, `little-u32`), and two numbers never have the same, whatever they are.
unfoldable pub u16_bytes : ℕ → Bytes
u16_bytes n = n % 256 ∷ n / 256 ∷ []

unfoldable pub u32_bytes : ℕ → Bytes
u32_bytes n = u16_bytes (n % 65536) ++ u16_bytes (n / 65536)

-- a name or a zone: its length and its bytes
unfoldable pub text_bytes : Bytes → Bytes
text_bytes b = length b ∷ b

-- what stands behind the code of a leaf type
unfoldable pub carried : LeafType → Bytes
carried null = []
carried boolean = []
carried (integer i) = []
carried (float f) = []
carried date = []
carried (datetime u z) = unit_code u ∷ text_bytes z
carried string = []
carried binary = []
carried categorical = []
carried (decimal d) = d.precision ∷ d.scale ∷ []

unfoldable pub leaf_form : LeafType → Bytes
leaf_form l = code_of (leaf_of l) ∷ carried l

-- what a type begins with
unfoldable pub kind_form : Head → Bytes
kind_form (a_leaf l) = leaf_form l
kind_form (a_struct n) = 18 ∷ u16_bytes n
kind_form a_list = 19 ∷ []
kind_form (an_array w) = 20 ∷ u32_bytes w

unfoldable mutual
  pub form : DataType → Bytes
  form (leaf l) = leaf_form l
  form (struct fs) = kind_form (a_struct (count_fields fs)) ++ form_fields fs
  form (list t) = kind_form a_list ++ form t
  form (array w t) = kind_form (an_array w) ++ form t

  pub form_fields : Fields → Bytes
  form_fields fnil = []
  form_fields (fcons n t fs) = text_bytes n ++ (form t ++ form_fields fs)
