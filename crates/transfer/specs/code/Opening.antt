-- What a value is made of, where it stands.
use Rattle.std.specs.Prelude.{ℕ, ◌≡◌}
use Rattle.layout.specs.Bytes.{Bytes}
use Rattle.layout.specs.declared.edition.Edition.{Edition}
use Rattle.values.specs.Value.{Value, vnull, vstruct, vlist, varray}
use Rattle.nodes.specs.code.Raw.{RowAt, ElementsAt}
use Rattle.transfer.specs.declared.opened.Opened.{Opened}

-- a struct's columns and their values
pub record StructOf (v : Edition) (lay : Bytes) (n t : ℕ) (rec : Bytes) (c : ℕ) (x : Value) : Type 0 where
  pub row : RowAt v lay n t rec c
  pub is : x ≡ vstruct row.values.values

-- the elements of a list, and of an array
pub record ListOf (v : Edition) (lay : Bytes) (n t : ℕ) (rec : Bytes) (c : ℕ) (x : Value) : Type 0 where
  pub elements : ElementsAt v lay n t rec c
  pub is : x ≡ vlist elements.values.values

pub record ArrayOf (v : Edition) (lay : Bytes) (n t : ℕ) (rec : Bytes) (c : ℕ) (x : Value) : Type 0 where
  pub elements : ElementsAt v lay n t rec c
  pub is : x ≡ varray elements.values.values

abbrev pub OpenedAnswer : Edition → Bytes → Bytes → Value → Opened → Type 0
OpenedAnswer v lay rec x Opened.Null = x ≡ vnull
OpenedAnswer v lay rec x Opened.Other = Unit {0}
OpenedAnswer v lay rec x (Opened.Row n t c) = StructOf v lay n t.at rec c.at x
OpenedAnswer v lay rec x (Opened.List n t c) = ListOf v lay n t.at rec c.at x
OpenedAnswer v lay rec x (Opened.Array n t c) = ArrayOf v lay n t.at rec c.at x

pub record OpenedIs (v : Edition) (lay rec : Bytes) (x : Value) (r : Opened) : Type 0 where
  pub answer : OpenedAnswer v lay rec x r
