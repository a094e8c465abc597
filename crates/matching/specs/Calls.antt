-- Document 01, "Building by name" and "Building by number": a build over any bytes, with its refusals in their order.
use Rattle.std.specs.Prelude.{ℕ, ◌≡◌, Bool, true, false, ◌&&◌, leb, length}
use Rattle.layout.specs.Bytes.{Bytes}
use Rattle.layout.specs.Parser.{ok}
use Rattle.layout.specs.Tree.{Layout, Columns}
use Rattle.layout.specs.Layout.{layout}
use Rattle.layout.specs.declared.edition.Edition.{Edition}
use Rattle.layout.specs.declared.edition.Edition.TheVariants.{One, Two, Three}
use Rattle.layout.specs.declared.matching.Matching.{Matching}
use Rattle.layout.specs.declared.matching.Matching.TheVariants.{ByName, ByNumber}
use Rattle.rules.specs.declared.policy.Policy.{Policy}
use Rattle.plan.specs.Result.{Result, gives, demand, Answer, accepted, refused_at, placed, answered}
use Rattle.plan.specs.Selector.{Selectors}
use Rattle.plan.specs.Encode.{encode_plan}
use Rattle.plan.specs.Calls.{read_at_of}
use Rattle.plan.specs.Read.{longest_plan}
use Rattle.defaults.specs.Table.{entries_of, table}
use Rattle.defaults.specs.Lookup.{get_default_value}
use Rattle.matching.specs.Default.{no_defaults}
use Rattle.matching.specs.Build.{build}

-- Document 02, L5: "building by number takes 2 or 3", also one of each; by name takes version 1 alone
abbrev pub takes : Matching → Edition → Bool
takes ByName One = true
takes ByName Two = false
takes ByName Three = false
takes ByNumber One = false
takes ByNumber Two = true
takes ByNumber Three = true

-- 10: either layout is of an edition that is not taken
unfoldable pub of_edition : Matching → Layout → Layout → Result (Unit {0})
of_edition v incoming target = demand (takes v incoming.edition && takes v target.edition) 10 (gives tt)

-- the bytes are a layout of these columns, of an edition that is taken
pub record ReadFor (v : Matching) (s : Bytes) (cs : Columns) : Type 0 where
  pub edition : Edition
  pub end : ℕ
  pub reads : layout s ≡ ok (record { edition = edition; columns = cs }) end
  pub taken : takes v edition ≡ true

-- the incoming layout, the target layout, 10
unfoldable pub both_layouts : {A : Type 0} → Matching → Bytes → Bytes → (Columns → Columns → Answer A) → Answer A
both_layouts v incoming target f =
    read_at_of 1 (layout incoming) (λ a. read_at_of 2 (layout target) (λ b. placed 0 (of_edition v a b) (λ x. f a.columns b.columns)))

-- the bytes fit a buffer of that many bytes, and a plan's longest length
unfoldable pub room_for : ℕ → Bytes → Bool
room_for room b = leb (length b) room && leb (length b) longest_plan

-- "Last, 27: the plan is longer than the buffer or 65,536 bytes"
unfoldable pub written_plan : ℕ → Selectors → Answer Bytes
written_plan room ss = placed 0 (demand (room_for room (encode_plan ss)) 27 (gives (encode_plan ss))) (λ b. accepted b)

unfoldable pub build_by_name : Policy → Bytes → Bytes → ℕ → Answer Bytes
build_by_name p incoming target room = both_layouts ByName incoming target (λ a b. answered (build ByName p no_defaults a b) (λ ss. written_plan room ss))

-- after 10 the defaults are read; the index is the source's, and of the table the entries of the owner count (document
-- 02, L7)
unfoldable pub build_by_number : Policy → ℕ → ℕ → Bytes → Bytes → Bytes → ℕ → Answer Bytes
build_by_number p index owner incoming target defaults room =
    both_layouts ByNumber incoming target
    (λ a b. read_at_of 3 (table defaults)
    (λ t. answered (build ByNumber p (get_default_value (entries_of owner t.entries) index) a b) (λ ss. written_plan room ss)))
