-- What the matchers ask and promise of the structs that they take.
use Rattle.std.specs.Prelude.{◌≡◌, true, ℕ, ◌+◌, ◌-◌, ◌*◌, ◌≤◌, ◌<◌, List, length, take}
use Rattle.layout.specs.Bytes.{Bytes}
use Rattle.layout.specs.Limits.{longest, longest_name}
use Rattle.layout.specs.code.Answers.{label_at, SpanIn}
use Rattle.layout.specs.code.Stands.{TypeAt}
use Rattle.plan.specs.Selector.{Selector}
use Rattle.matching.specs.Build.{unless_null_type, attach_transforms, attach_fields}
use Rattle.builder.specs.code.Answers.{Makes, MakesRow, Maps, element_of, needs_rename, DefaultsAt, defaults_at}
use Rattle.builder.specs.code.Answers.{attach_renamed, attach_field, attach_struct, attach_element, attach_inner, attach_nested}
use Rattle.builder.specs.code.Bundles.{FieldsAt, TableOf, Taken}
use Rattle.builder.specs.declared.answer.Made.{Made}
use Rattle.builder.specs.declared.answer.Row.{Row}
use Rattle.builder.specs.declared.build.Build.{Build}
use Rattle.builder.specs.declared.build.FieldsOver.{FieldsOver}
use Rattle.builder.specs.declared.build.Pair.{Pair}
use Rattle.builder.specs.declared.build.Place.{Place}
use Rattle.builder.specs.declared.build.Rows.{Rows}
use Rattle.builder.specs.declared.build.Sought.{Sought}
use Rattle.builder.specs.declared.build.Types.{Types}

-- ---- where they stand

abbrev pub FieldsOverAt : Build → FieldsOver → Bytes → Bytes → Type 0
FieldsOverAt build over incoming target =
    TypeAt build.incoming over.depth incoming over.incoming.at × (FieldsAt build.target (over.depth - 1) target over.target × Taken build)

abbrev pub PairAt : Build → Pair → Bytes → Bytes → Type 0
PairAt build pair incoming target =
    TypeAt build.incoming pair.depth incoming pair.incoming.cursor.at
    × (TypeAt build.target pair.depth target pair.target.cursor.at × Taken build)

-- both names stand inside their bytes, and the target's is short
abbrev pub PairNamed : Pair → Bytes → Bytes → Type 0
PairNamed pair incoming target =
    SpanIn incoming pair.incoming.label.name × SpanIn target pair.target.label.name × (pair.target.label.name.len ≤ longest_name)

abbrev pub SoughtAt : Build → Sought → Bytes → Bytes → Type 0
SoughtAt build sought incoming target =
    FieldsAt build.incoming sought.depth incoming sought.among
    × (TypeAt build.target sought.depth target sought.column.cursor.at × Taken build)

-- the columns that are sought among have their table at the start of the arena, where there is one
abbrev pub SoughtIn : Build → Sought → Bytes → List ℕ → Type 0
SoughtIn build sought incoming arena =
    (sought.used ≤ length arena)
    × (0 < sought.used → TableOf build build.incoming sought.depth incoming sought.among (take sought.used arena))

-- the bytes are short, and a mapping's head has room before its fields
abbrev pub StructRoom : FieldsOver → Place → Bytes → Bytes → Type 0
StructRoom over place table target =
    (length target ≤ longest) × (length table ≤ longest) × (over.target.first.at ≤ length target) × (place.k + 6 ≤ 65536 * over.target.first.at)

-- ---- what is made

abbrev pub AttachedTypes : Build → Bytes → Bytes → Bytes → Types → Place → Bytes → Made → Bytes → Type 0
AttachedTypes build incoming table target types place out r out' =
    (T : DefaultsAt table build.defaults)
    (P : TypeAt build.incoming types.depth incoming types.incoming.at)
    (Q : TypeAt build.target types.depth target types.target.at)
    → Makes types.target.at Q.end out place.k
    (attach_transforms build.matching build.policy (defaults_at build.defaults T) Q.tree place.position P.tree) r out'

abbrev pub AttachedNested : Build → Bytes → Bytes → Bytes → Types → Place → Bytes → Made → Bytes → Type 0
AttachedNested build incoming table target types place out r out' =
    (T : DefaultsAt table build.defaults)
    (P : TypeAt build.incoming types.depth incoming types.incoming.at)
    (Q : TypeAt build.target types.depth target types.target.at)
    → Makes types.target.at Q.end out place.k
    (unless_null_type build.matching build.policy place.position Q.tree P.tree
    (attach_nested build.matching build.policy (defaults_at build.defaults T) Q.tree place.position P.tree)) r out'

abbrev pub AttachedStruct : Build → Bytes → Bytes → Bytes → FieldsOver → Place → Bytes → Made → Bytes → Type 0
AttachedStruct build incoming table target over place out r out' =
    (from : ℕ)
    (T : DefaultsAt table build.defaults)
    (P : TypeAt build.incoming over.depth incoming over.incoming.at)
    (Q : FieldsAt build.target (over.depth - 1) target over.target)
    → from < over.target.first.at
    → Makes from Q.end out place.k
    (attach_struct build.matching build.policy (defaults_at build.defaults T) Q.columns place.position P.tree) r out'

abbrev pub AttachedRows : Build → Bytes → Bytes → Bytes → Rows → ℕ → Bytes → Row → Bytes → Type 0
AttachedRows build incoming table target rows k out r out' =
    (T : DefaultsAt table build.defaults)
    (P : FieldsAt build.incoming rows.depth incoming rows.incoming)
    (Q : FieldsAt build.target rows.depth target rows.target)
    → MakesRow rows.target.first.at Q.end out k
    (attach_fields build.matching build.policy (defaults_at build.defaults T) Q.columns P.columns) r out'

abbrev pub AttachedField : Build → Bytes → Bytes → Bytes → Sought → ℕ → Bytes → Made → Bytes → Type 0
AttachedField build incoming table target sought k out r out' =
    (from : ℕ)
    (T : DefaultsAt table build.defaults)
    (P : FieldsAt build.incoming sought.depth incoming sought.among)
    (Q : TypeAt build.target sought.depth target sought.column.cursor.at)
    → from < sought.column.cursor.at
    → Makes from Q.end out k
    (attach_field build.matching build.policy (defaults_at build.defaults T) sought.missing.insert sought.missing.number
    (label_at target sought.column.label) Q.tree P.columns) r out'

abbrev pub AttachedPair : Build → Bytes → Bytes → Bytes → Pair → Place → Bytes → Made → Bytes → Type 0
AttachedPair build incoming table target pair place out r out' =
    (from : ℕ)
    (T : DefaultsAt table build.defaults)
    (P : TypeAt build.incoming pair.depth incoming pair.incoming.cursor.at)
    (Q : TypeAt build.target pair.depth target pair.target.cursor.at)
    → from ≤ pair.target.cursor.at
    → (needs_rename build.matching (label_at target pair.target.label) (label_at incoming pair.incoming.label) ≡ true
    → from < pair.target.cursor.at)
    → Makes from Q.end out place.k
    (attach_renamed build.matching build.policy (defaults_at build.defaults T) (label_at target pair.target.label) Q.tree
    place.position (label_at incoming pair.incoming.label) P.tree) r out'

abbrev pub AttachedElement : Build → ℕ → Bytes → Bytes → Pair → Place → Bytes → Made → Bytes → Type 0
AttachedElement build code incoming target pair place out r out' =
    (from : ℕ)
    (f g : Selector → Selector)
    (M : Maps place.position code f g)
    (P : TypeAt build.incoming pair.depth incoming pair.incoming.cursor.at)
    (Q : TypeAt build.target pair.depth target pair.target.cursor.at)
    → from < pair.target.cursor.at
    → (needs_rename build.matching (label_at target pair.target.label) (label_at incoming pair.incoming.label) ≡ true
    → from + 1 < pair.target.cursor.at)
    → Makes from Q.end out place.k
    (attach_element build.matching build.policy f (label_at target pair.target.label) Q.tree
    (label_at incoming pair.incoming.label) P.tree) r out'

abbrev pub AttachedInner : Build → Bytes → Bytes → Types → Place → Bytes → Made → Bytes → Type 0
AttachedInner build incoming target types place out r out' =
    (P : TypeAt build.incoming types.depth incoming types.incoming.at) (Q : TypeAt build.target types.depth target types.target.at)
    → Makes types.target.at Q.end out place.k (attach_inner build.matching build.policy (element_of Q.tree) place.position P.tree)
    r out'
