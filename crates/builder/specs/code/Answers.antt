-- What the answers of the code stand for, and the contracts of the matchers: what is written into the scratch buffer is
-- right up to its end.
use Rattle.std.specs.Prelude.{◌≡◌, Bool, true, false, not, ◌&&◌, ◌||◌, ◌∷◌, ◌++◌, ℕ, ◌+◌, ◌-◌, ◌*◌, ◌<◌, ◌≤◌, length, eqb}
use Rattle.store.specs.code.Overlay.{Holds}
use Rattle.layout.specs.Bytes.{Bytes, same_bytes}
use Rattle.layout.specs.Limits.{longest, longest_name}
use Rattle.layout.specs.Parser.{choose}
use Rattle.layout.specs.Tree.{LeafType, Label, ColumnType, cleaf, cstruct, clist, carray, Columns, DataType, dtype_of}
use Rattle.layout.specs.code.Answers.{leaf_at, label_at, SpanIn}
use Rattle.layout.specs.Find.{counterpart}
use Rattle.layout.specs.code.Stands.{TypeAt, ColumnsAt}
use Rattle.layout.specs.declared.columns.Position.{Position}
use Rattle.layout.specs.declared.columns.Label.{Label as LabelSpan}
use Rattle.layout.specs.declared.cursor.Cursor.{Cursor}
use Rattle.layout.specs.declared.types.LeafType.{LeafType as LeafSpan}
use Rattle.layout.specs.declared.edition.Edition.{Edition}
use Rattle.layout.specs.declared.matching.Matching.{Matching}
use Rattle.layout.specs.declared.matching.Matching.TheVariants.{ByName, ByNumber}
use Rattle.rules.specs.declared.policy.Policy.{Policy}
use Rattle.rules.specs.Outcomes.{Verdict, untouched, refused, cast as casts}
use Rattle.rules.specs.declared.outcome.CastOption.TheVariants.{NonStrict}
use Rattle.forms.specs.Form.{text_bytes, form}
use Rattle.values.specs.Value.{Value}
use Rattle.values.specs.Encode.{encode_value, encode_values}
use Rattle.defaults.specs.code.Stands.{TableAt}
use Rattle.defaults.specs.Lookup.{get_default_value}
use Rattle.plan.specs.Result.{Result, gives, refuses, ◌>>=◌, demand}
use Rattle.plan.specs.Nullness.{of_value, of_fields}
use Rattle.plan.specs.Marks.{meets, meets_all}
use Rattle.plan.specs.Selector.{Selector, position, constant, cast, rename, struct_mapping, list_mapping, array_mapping, Selectors}
use Rattle.plan.specs.Encode.{encode_selector, encode_selectors}
use Rattle.matching.specs.Default.{Defaults, no_defaults, Default, none, some, or_null, FieldDefaults}
use Rattle.matching.specs.Build.{Element, struct_part, list_part, array_part, renamed, same_element, distinct, no_extra_of, ignores, keeps_required, missing, is_position}
use Rattle.matching.specs.Build.{in_place_of, struct_selector, list_selector, array_selector, first, sought, attach_transforms, attach_fields}
use Rattle.matching.specs.Calls.{takes}
use Rattle.builder.specs.declared.answer.Made.{Made}
use Rattle.builder.specs.declared.answer.Made.TheVariants.{Refused, Bare, Built}
use Rattle.builder.specs.declared.answer.Row.{Row}
use Rattle.builder.specs.declared.answer.Row.TheVariants.{Failed, Done}
use Rattle.defaults.specs.declared.lookup.DefaultFieldValues.{DefaultFieldValues}
use Rattle.builder.specs.declared.default.DefaultMade.{DefaultMade}
use Rattle.builder.specs.declared.default.DefaultsMade.{DefaultsMade}
use Rattle.builder.specs.declared.parts.LeafPart.{LeafPart}
use Rattle.builder.specs.declared.parts.StructPart.{StructPart}
use Rattle.builder.specs.declared.parts.ElementPart.{ElementPart}
use Rattle.builder.specs.declared.parts.InnerPart.{InnerPart}

-- by number unequal names add a rename
abbrev pub needs_rename : Matching → Label → Label → Bool
needs_rename ByName target incoming = false
needs_rename ByNumber target incoming = not (same_bytes incoming.name target.name)

-- ---- a type's parts

-- where the leaf type that was taken stands
pub record LeafIs (s : Bytes) (l : LeafType) (r : LeafPart) : Type 0 where
  pub span : LeafSpan
  pub is : r ≡ LeafPart.Is span
  pub leaf : leaf_at s span ≡ l
  pub inside : SpanIn s span.zone

abbrev pub LeafPartIs : Bytes → Result LeafType → LeafPart → Type 0
LeafPartIs s (refuses n) r = (n ≡ 24) × (r ≡ LeafPart.Mismatch)
LeafPartIs s (gives l) r = LeafIs s l r

-- where the columns of a struct at an offset, which ends at e, stand
pub record StructIs (v : Edition) (d : ℕ) (s : Bytes) (at : ℕ) (cs : Columns) (e : ℕ) (r : StructPart) : Type 0 where
  pub count : ℕ
  pub start : Cursor
  pub is : r ≡ StructPart.Is count start
  pub inner : ColumnsAt v (d - 1) s count start.at
  pub columns : inner.columns ≡ cs
  pub ends : inner.end ≡ e
  pub after : at < start.at
  pub within : start.at ≤ length s

abbrev pub StructPartIs : Edition → ℕ → Bytes → ℕ → Result Columns → ℕ → StructPart → Type 0
StructPartIs v d s at (refuses n) e r = (n ≡ 24) × (r ≡ StructPart.Mismatch)
StructPartIs v d s at (gives cs) e r = StructIs v d s at cs e r

-- a type's element
pub data Inner : Type 0 where
  no_element : Inner
  list_element : Label → ColumnType → Inner
  array_element : ℕ → Label → ColumnType → Inner

unfoldable pub element_of : ColumnType → Inner
element_of (cleaf l) = no_element
element_of (cstruct cs) = no_element
element_of (clist l t) = list_element l t
element_of (carray w l t) = array_element w l t

-- where the element of a type at an offset, which ends at e, stands; f makes the answer
pub record ElementIs {R : Type 0} (v : Edition) (d : ℕ) (s : Bytes) (at : ℕ) (l : Label) (t : ColumnType) (e : ℕ) (f : LabelSpan → Cursor → R) (r : R) :
    Type 0 where
  pub span : LabelSpan
  pub start : Cursor
  pub is : r ≡ f span start
  pub label : label_at s span ≡ l
  pub inside : SpanIn s span.name
  pub short : span.name.len ≤ longest_name
  pub inner : TypeAt v (d - 1) s start.at
  pub tree : inner.tree ≡ t
  pub ends : inner.end ≡ e
  pub after : at < start.at
  pub named : (how : Matching) (x y : Label) → takes how v ≡ true → needs_rename how x y ≡ true → at + 1 < start.at

abbrev pub ElementPartIs : Edition → ℕ → Bytes → ℕ → Inner → ℕ → ElementPart → Type 0
ElementPartIs v d s at no_element e r = r ≡ ElementPart.Mismatch
ElementPartIs v d s at (list_element l t) e r = ElementIs v d s at l t e (λ a b. ElementPart.List a b) r
ElementPartIs v d s at (array_element w l t) e r = ElementIs v d s at l t e (λ a b. ElementPart.Array w a b) r

-- the element of a list, or of an array of one width
abbrev pub InnerPartIs : Edition → ℕ → Bytes → ℕ → Result Element → ℕ → InnerPart → Type 0
InnerPartIs v d s at (refuses n) e r = (n ≡ 24) × (r ≡ InnerPart.Mismatch)
InnerPartIs v d s at (gives x) e r = ElementIs v d s at x.label x.type e (λ a b. InnerPart.Is a b) r

-- ---- the matchers' answers

unfoldable pub made_of : Result Selector → Made
made_of (refuses n) = Refused n
made_of (gives (position k)) = Bare k
made_of (gives (constant n t x)) = Built (length (encode_selector (constant n t x)))
made_of (gives (cast s t o)) = Built (length (encode_selector (cast s t o)))
made_of (gives (rename s n)) = Built (length (encode_selector (rename s n)))
made_of (gives (struct_mapping s ss)) = Built (length (encode_selector (struct_mapping s ss)))
made_of (gives (list_mapping s e)) = Built (length (encode_selector (list_mapping s e)))
made_of (gives (array_mapping s e)) = Built (length (encode_selector (array_mapping s e)))

-- for fields from position i on
unfoldable pub row_of : ℕ → Result Selectors → Row
row_of i (refuses n) = Failed n
row_of i (gives ss) = Done (in_place_of i ss) (length (encode_selectors ss))

abbrev pub is_refused : Made → Bool
is_refused (Refused n) = true
is_refused (Bare k) = false
is_refused (Built n) = false

abbrev pub is_bare : ℕ → Made → Bool
is_bare i (Refused n) = false
is_bare i (Bare k) = eqb k.0 i
is_bare i (Built n) = false

abbrev pub len_of : Made → ℕ
len_of (Refused n) = 0
len_of (Bare k) = 3
len_of (Built n) = n

abbrev pub failed_of : Made → Row
failed_of (Refused n) = Failed n
failed_of (Bare k) = Failed 0
failed_of (Built n) = Failed 0

abbrev pub refused_row : Row → Made
refused_row (Failed n) = Refused n
refused_row (Done same n) = Refused 0

-- a field before others
abbrev pub join_row : Bool → ℕ → Row → Row
join_row here len (Failed n) = Failed n
join_row here len (Done same n) = Done (here && same) (len + n)

-- ---- what they write

-- A selector in the buffer from k on, for target bytes from b to e: with at most 65,536 bytes for each of these an
-- index stays far below 2 ^ 64. After a refusal nothing is said of the buffer.
unfoldable pub Wrote : ℕ → ℕ → Bytes → ℕ → Result Selector → Bytes → Type 0
Wrote b e out k (refuses n) out' = Unit {0}
Wrote b e out k (gives s) out' = Holds out k (encode_selector s) out' × (length (encode_selector s) + 65536 * b ≤ 65536 * e)

unfoldable pub WroteRow : ℕ → ℕ → Bytes → ℕ → Result Selectors → Bytes → Type 0
WroteRow b e out k (refuses n) out' = Unit {0}
WroteRow b e out k (gives ss) out' = Holds out k (encode_selectors ss) out' × (length (encode_selectors ss) + 65536 * b ≤ 65536 * e)

-- the selector that X is, answered and written
pub record Makes (b e : ℕ) (out : Bytes) (k : ℕ) (X : Result Selector) (r : Made) (out' : Bytes) : Type 0 where
  pub answer : r ≡ made_of X
  pub wrote : Wrote b e out k X out'

-- the same for the selectors of a struct's fields
pub record MakesRow (b e : ℕ) (out : Bytes) (k : ℕ) (X : Result Selectors) (r : Row) (out' : Bytes) : Type 0 where
  pub answer : r ≡ row_of 0 X
  pub wrote : WroteRow b e out k X out'

-- the defaults that the code is given: an owner's entries of a table, at a source index
abbrev pub DefaultsAt : Bytes → DefaultFieldValues → Type 0
DefaultsAt table dv = TableAt table dv

abbrev pub defaults_at : {table : Bytes} (dv : DefaultFieldValues) → DefaultsAt table dv → Defaults
defaults_at dv T = get_default_value T.entries dv.source_index

-- ---- the parts of `attach_transforms` that have functions of their own

-- with a rename outside, where the labels ask for one; 55 before the types
abbrev pub attach_renamed : Matching → Policy → Defaults → Label → ColumnType → Position → Label → ColumnType → Result Selector
attach_renamed v p d l u k m t = demand (keeps_required m t l) 55 (attach_transforms v p d u k t >>= λ s. gives (renamed v l m s))

-- a target column over its counterpart among fs; n is the refusal where it is missing
abbrev pub attach_field : Matching → Policy → Defaults → Bool → ℕ → Label → ColumnType → Columns → Result Selector
attach_field v p d insert n l u fs = sought (counterpart v l fs) (missing d insert n l u) (λ k m t. attach_renamed v p d l u k m t)

-- a struct target with the fields gs
abbrev pub attach_struct : Matching → Policy → Defaults → Columns → Position → ColumnType → Result Selector
attach_struct v p d gs k t =
    struct_part t >>= λ fs.
    demand (distinct v gs) 12
    (demand (distinct v fs) 12
    (demand (ignores p.extra_struct_fields || no_extra_of v fs gs) 13
    (attach_fields v p d gs fs >>= λ ss. gives (struct_selector k fs ss))))

-- an element, inside which there are no defaults; f is the mapping around it
abbrev pub attach_element : Matching → Policy → (Selector → Selector) → Label → ColumnType → Label → ColumnType → Result Selector
attach_element v p f l u m t = demand (same_element v m l) 25 (attach_renamed v p no_defaults l u first m t >>= λ s. gives (f s))

-- a target with this element
abbrev pub attach_inner : Matching → Policy → Inner → Position → ColumnType → Result Selector
attach_inner v p no_element k t = refuses 24
attach_inner v p (list_element l u) k t = list_part t >>= λ e. attach_element v p (list_selector k) l u e.label e.type
attach_inner v p (array_element w l u) k t = array_part w t >>= λ e. attach_element v p (array_selector k) l u e.label e.type

-- a target that is no leaf, over an incoming type that is not null
unfoldable pub attach_nested : Matching → Policy → Defaults → ColumnType → Position → ColumnType → Result Selector
attach_nested v p d (cleaf l) k t = refuses 24
attach_nested v p d (cstruct gs) k t = attach_struct v p d gs k t
attach_nested v p d (clist l u) k t = attach_inner v p (list_element l u) k t
attach_nested v p d (carray w l u) k t = attach_inner v p (array_element w l u) k t

-- f leaves the mapping g out around the element's bare position; c is the mapping's code
pub record Maps (k : Position) (c : ℕ) (f g : Selector → Selector) : Type 0 where
  pub chooses : (s : Selector) → f s ≡ choose (is_position 0 s) (position k) (g s)
  pub bytes : (s : Selector) → encode_selector (g s) ≡ c ∷ (encode_selector (position k) ++ encode_selector s)
  pub made : (s : Selector) → made_of (gives (g s)) ≡ Built (length (encode_selector (g s)))

-- a leaf, by the rule of its pair
abbrev pub by_rule : Verdict → Position → ColumnType → Result Selector
by_rule untouched k u = gives (position k)
by_rule (refused n) k u = refuses n
by_rule (casts o) k u = gives (cast (position k) (dtype_of u) o)

abbrev pub Ruled : Verdict → Edition → ℕ → Bytes → ℕ → Position → Bytes → ℕ → Made → Bytes → Type 0
Ruled x v d target bt k out to r out' = (Q : TypeAt v d target bt) → Makes bt Q.end out to (by_rule x k Q.tree) r out'

-- ---- the tests

-- 12, the target's names first, then 13; 0 where both pass
abbrev pub fault_of : Policy → Matching → Columns → Columns → ℕ
fault_of p v gs fs = choose (distinct v gs) (choose (distinct v fs) (choose (ignores p.extra_struct_fields || no_extra_of v fs gs) 0 13) 12) 12

-- a null incoming type by name
abbrev pub null_cast : Policy → Position → ColumnType → Result Selector
null_cast p k u = demand p.null_upcast 15 (gives (cast (position k) (dtype_of u) NonStrict))

-- ---- the value of a column with no counterpart

-- for a type u: no required field inside the value is null
abbrev pub filled_in_of : ColumnType → Value → Bool
filled_in_of u x = meets (of_value x) false u

-- inside a leaf there is none
abbrev pub any_filled : Value → Bool
any_filled x = true

-- f says whether no required field inside the value is null
unfoldable pub default_made : (Value → Bool) → Result Default → DefaultMade
default_made f (refuses n) = DefaultMade.Refused n
default_made f (gives none) = DefaultMade.None
default_made f (gives (some x)) = DefaultMade.Some (length (encode_value x)) (f x)

-- the values of a struct's fields
unfoldable pub defaults_made : Columns → Result FieldDefaults → DefaultsMade
defaults_made cs (refuses n) = DefaultsMade.Failed n
defaults_made cs (gives g) = DefaultsMade.Done g.any (meets_all (of_fields g.values) cs) (length (encode_values g.values))

abbrev pub is_default_refused : DefaultMade → Bool
is_default_refused (DefaultMade.Refused n) = true
is_default_refused DefaultMade.None = false
is_default_refused (DefaultMade.Some n f) = false

abbrev pub is_some_made : DefaultMade → Bool
is_some_made (DefaultMade.Refused n) = false
is_some_made DefaultMade.None = false
is_some_made (DefaultMade.Some n f) = true

-- neither the field itself, of the mark r, nor a required one inside its default is null
abbrev pub fills_made : Bool → DefaultMade → Bool
fills_made r (DefaultMade.Refused n) = true
fills_made r DefaultMade.None = not r
fills_made r (DefaultMade.Some n f) = f

-- a null has one byte
abbrev pub value_len : DefaultMade → ℕ
value_len (DefaultMade.Refused n) = 0
value_len DefaultMade.None = 1
value_len (DefaultMade.Some n f) = n

abbrev pub failed_default : DefaultMade → DefaultsMade
failed_default (DefaultMade.Refused n) = DefaultsMade.Failed n
failed_default DefaultMade.None = DefaultsMade.Failed 0
failed_default (DefaultMade.Some n f) = DefaultsMade.Failed 0

-- a field before others
abbrev pub join_defaults : Bool → Bool → ℕ → DefaultsMade → DefaultsMade
join_defaults any filled len (DefaultsMade.Failed n) = DefaultsMade.Failed n
join_defaults any filled len (DefaultsMade.Done more rest n) = DefaultsMade.Done (any || more) (filled && rest) (len + n)

-- a constant: its name and type have h bytes with its code
abbrev pub constant_made : ℕ → DefaultMade → Made
constant_made h (DefaultMade.Refused n) = Refused n
constant_made h DefaultMade.None = Built (h + 1)
constant_made h (DefaultMade.Some n f) = Built (h + n)

-- A value in the buffer from k on, for target bytes from b to e: a value of a table has at most 16,384 bytes, and what
-- it stands for at least one.
unfoldable pub WroteDefault : ℕ → ℕ → Bytes → ℕ → Result Default → Bytes → Type 0
WroteDefault b e out k (refuses n) out' = Unit {0}
WroteDefault b e out k (gives x) out' = Holds out k (encode_value (or_null x)) out' × (length (encode_value (or_null x)) + longest * b ≤ longest * e)

unfoldable pub WroteDefaults : ℕ → ℕ → Bytes → ℕ → Result FieldDefaults → Bytes → Type 0
WroteDefaults b e out k (refuses n) out' = Unit {0}
WroteDefaults b e out k (gives g) out' = Holds out k (encode_values g.values) out' × (length (encode_values g.values) + longest * b ≤ longest * e)

-- the default that X is, answered and written
pub record MakesDefault (f : Value → Bool) (b e : ℕ) (out : Bytes) (k : ℕ) (X : Result Default) (r : DefaultMade) (out' : Bytes) : Type 0 where
  pub answer : r ≡ default_made f X
  pub wrote : WroteDefault b e out k X out'

-- for a struct's fields cs
pub record MakesDefaults (cs : Columns) (b e : ℕ) (out : Bytes) (k : ℕ) (X : Result FieldDefaults) (r : DefaultsMade) (out' : Bytes) : Type 0 where
  pub answer : r ≡ defaults_made cs X
  pub wrote : WroteDefaults b e out k X out'

-- the bytes of a constant before its value
abbrev pub constant_head : Bytes → DataType → Bytes
constant_head n t = 1 ∷ (text_bytes n ++ form t)
