-- What a selector that stands in a plan is made of. Document 01, "Plans, check and run": "Code u8: 0 position u16; 1
-- constant: name, type (version 1 form), value. Transforms begin with their input selector: 2 cast: type, option u8; 3
-- rename: name; 4 struct mapping: u16 count, selectors; 5 list and 6 array mapping: one selector." A record for each
-- speaks of the selector P at an offset and of where its input (a constant's type) begins.
use Rattle.std.specs.Prelude.{ℕ, ◌+◌, ◌≤◌, ◌<◌, ◌≡◌, get_or}
use Rattle.layout.specs.Bytes.{Bytes}
use Rattle.layout.specs.Parser.{ok, u16}
use Rattle.layout.specs.Tree.{dtype_of}
use Rattle.layout.specs.Layout.{text}
use Rattle.layout.specs.code.Stands.{TypeAt}
use Rattle.layout.specs.code.Answers.{span_at, SpanIn}
use Rattle.layout.specs.declared.bytes.Span.{Span}
use Rattle.layout.specs.declared.edition.Edition.TheVariants.{One}
use Rattle.rules.specs.declared.outcome.CastOption.{CastOption}
use Rattle.values.specs.code.Stands.{ValueAt}
use Rattle.plan.specs.Selector.{position, constant, cast, rename, struct_mapping, list_mapping, array_mapping}
use Rattle.plan.specs.Read.{cast_option}
use Rattle.plan.specs.Reach.{SelectorAt as Nth}
use Rattle.walk.specs.code.Stands.{SelectorAt, SelectorsAt}
use Rattle.walk.specs.declared.head.SelectorHead.{SelectorHead}
use Rattle.walk.specs.declared.head.StructFields.{StructFields}

-- a name
pub record TextAt (s : Bytes) (at : ℕ) : Type 0 where
  pub bytes : Bytes
  pub end : ℕ
  pub reads : text s at ≡ ok bytes end

-- a cast's option
pub record OptionAt (s : Bytes) (at : ℕ) : Type 0 where
  pub option : CastOption
  pub end : ℕ
  pub reads : cast_option s at ≡ ok option end

-- a count, and as many selectors
pub record CountedAt (s : Bytes) (at : ℕ) : Type 0 where
  pub count : ℕ
  pub first : ℕ
  pub reads : u16 s at ≡ ok count first
  pub selectors : SelectorsAt s count first

pub record ConstantAt (s : Bytes) (at : ℕ) (P : SelectorAt s at) (n : Span) (m : ℕ) : Type 0 where
  pub code : get_or s at 0 ≡ 1
  pub named : SpanIn s n
  pub type : TypeAt One 16 s m
  pub value : ValueAt (dtype_of type.tree) s type.end
  pub is : P.tree ≡ constant (span_at s n) (dtype_of type.tree) value.tree
  pub starts : at < m
  pub ends : value.end ≡ P.end

pub record CastAt (s : Bytes) (at : ℕ) (P : SelectorAt s at) (m : ℕ) : Type 0 where
  pub code : get_or s at 0 ≡ 2
  pub input : SelectorAt s m
  pub type : TypeAt One 16 s input.end
  pub option : OptionAt s type.end
  pub is : P.tree ≡ cast input.tree (dtype_of type.tree) option.option
  pub starts : m ≡ at + 1
  pub inside : input.end ≤ type.end
  pub ends : (type.end ≤ P.end) × (option.end ≡ P.end)

pub record RenameAt (s : Bytes) (at : ℕ) (P : SelectorAt s at) (m : ℕ) : Type 0 where
  pub code : get_or s at 0 ≡ 3
  pub input : SelectorAt s m
  pub name : TextAt s input.end
  pub is : P.tree ≡ rename input.tree name.bytes
  pub starts : m ≡ at + 1
  pub inside : input.end ≤ P.end
  pub ends : name.end ≡ P.end

pub record StructAt (s : Bytes) (at : ℕ) (P : SelectorAt s at) (m : ℕ) : Type 0 where
  pub code : get_or s at 0 ≡ 4
  pub input : SelectorAt s m
  pub fields : CountedAt s input.end
  pub is : P.tree ≡ struct_mapping input.tree fields.selectors.trees
  pub starts : m ≡ at + 1
  pub inside : input.end ≤ fields.first
  pub ends : (fields.first ≤ P.end) × (fields.selectors.end ≡ P.end)

pub record ListAt (s : Bytes) (at : ℕ) (P : SelectorAt s at) (m : ℕ) : Type 0 where
  pub code : get_or s at 0 ≡ 5
  pub input : SelectorAt s m
  pub element : SelectorAt s input.end
  pub is : P.tree ≡ list_mapping input.tree element.tree
  pub starts : m ≡ at + 1
  pub inside : input.end ≤ P.end
  pub ends : element.end ≡ P.end

pub record ArrayAt (s : Bytes) (at : ℕ) (P : SelectorAt s at) (m : ℕ) : Type 0 where
  pub code : get_or s at 0 ≡ 6
  pub input : SelectorAt s m
  pub element : SelectorAt s input.end
  pub is : P.tree ≡ array_mapping input.tree element.tree
  pub starts : m ≡ at + 1
  pub inside : input.end ≤ P.end
  pub ends : element.end ≡ P.end

-- what an answer of `head` says of the selector that stands there
abbrev pub HeadParts : (s : Bytes) (at : ℕ) (P : SelectorAt s at) → SelectorHead → Type 0
HeadParts s at P (SelectorHead.Position k) = (get_or s at 0 ≡ 0) × (P.tree ≡ position k)
HeadParts s at P (SelectorHead.Constant n c) = ConstantAt s at P n c.at
HeadParts s at P (SelectorHead.Cast c) = CastAt s at P c.at
HeadParts s at P (SelectorHead.Rename c) = RenameAt s at P c.at
HeadParts s at P (SelectorHead.Struct c) = StructAt s at P c.at
HeadParts s at P (SelectorHead.List c) = ListAt s at P c.at
HeadParts s at P (SelectorHead.Array c) = ArrayAt s at P c.at
HeadParts s at P SelectorHead.Refused = ⊥

pub record HeadIs (s : Bytes) (at : ℕ) (P : SelectorAt s at) (r : SelectorHead) : Type 0 where
  pub parts : HeadParts s at P r

-- where a name stands
pub record NameIs (s : Bytes) (at : ℕ) (N : TextAt s at) (r : Span) : Type 0 where
  pub is : span_at s r ≡ N.bytes
  pub within : SpanIn s r

-- how many selectors there are, and where
pub record CountedIs (s : Bytes) (at : ℕ) (Q : CountedAt s at) (r : StructFields) : Type 0 where
  pub count : r.count ≡ Q.count
  pub first : r.first.at ≡ Q.first

-- the k-th of the selectors Q stands at m
pub record NthIs (s : Bytes) (n at : ℕ) (Q : SelectorsAt s n at) (k m : ℕ) : Type 0 where
  pub here : SelectorAt s m
  pub nth : Nth Q.trees k here.tree
  pub starts : at ≤ m
  pub ends : here.end ≤ Q.end
