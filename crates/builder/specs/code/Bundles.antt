-- What functions ask and promise of the structs of build.rt.
use Rattle.std.specs.Prelude.{◌≡◌, Bool, true, not, List, ℕ, ◌<◌}
use Rattle.layout.specs.Bytes.{Bytes}
use Rattle.layout.specs.Tree.{Label, cleaf}
use Rattle.layout.specs.code.Answers.{leaf_at, label_at}
use Rattle.layout.specs.Find.{counterpart}
use Rattle.layout.specs.code.Stands.{TypeAt, ColumnsAt}
use Rattle.layout.specs.declared.columns.FieldId.{FieldId}
use Rattle.layout.specs.declared.cursor.Cursor.{Cursor}
use Rattle.layout.specs.declared.edition.Edition.{Edition}
use Rattle.layout.specs.declared.types.LeafType.{LeafType as LeafSpan}
use Rattle.labels.specs.code.LabelTable.{Table}
use Rattle.defaults.specs.code.Stands.{TableAt}
use Rattle.matching.specs.Default.{Defaults, build_iceberg_default_value, defaults_of}
use Rattle.matching.specs.Build.{is_absent, no_extra_of, keeps_required, missing as missingColumn, attach_transforms}
use Rattle.matching.specs.Calls.{takes}
use Rattle.builder.specs.code.Answers.{Makes, MakesDefault, MakesDefaults, filled_in_of, fault_of, defaults_at}
use Rattle.builder.specs.declared.answer.Made.{Made}
use Rattle.builder.specs.declared.build.Build.{Build}
use Rattle.builder.specs.declared.build.Column.{Column}
use Rattle.builder.specs.declared.build.Fields.{Fields}
use Rattle.builder.specs.declared.build.Missing.{Missing}
use Rattle.builder.specs.declared.build.Place.{Place}
use Rattle.builder.specs.declared.build.Rows.{Rows}
use Rattle.builder.specs.declared.build.Types.{Types}
use Rattle.builder.specs.declared.default.DefaultMade.{DefaultMade}
use Rattle.builder.specs.declared.default.DefaultsMade.{DefaultsMade}

-- ---- where they stand

abbrev pub FieldsAt : Edition → ℕ → Bytes → Fields → Type 0
FieldsAt v d s fields = ColumnsAt v d s fields.count fields.first.at

-- a table of these fields, by what the build compares
abbrev pub TableOf : Build → Edition → ℕ → Bytes → Fields → List ℕ → Type 0
TableOf build v d s fields chains = Table v build.matching d s fields.count fields.first.at chains

-- the build's matching takes the target's edition
abbrev pub Taken : Build → Type 0
Taken build = takes build.matching build.target ≡ true

abbrev pub TypesAt : Build → Types → Bytes → Bytes → Type 0
TypesAt build types incoming target =
    TypeAt build.incoming types.depth incoming types.incoming.at × (TypeAt build.target types.depth target types.target.at × Taken build)

abbrev pub RowsAt : Build → Rows → Bytes → Bytes → Type 0
RowsAt build rows incoming target =
    FieldsAt build.incoming rows.depth incoming rows.incoming × (FieldsAt build.target rows.depth target rows.target × Taken build)

-- ---- tests of fields

abbrev pub Faulty : Build → Rows → Bytes → Bytes → ℕ → Type 0
Faulty build rows incoming target r =
    (P : FieldsAt build.incoming rows.depth incoming rows.incoming) (Q : FieldsAt build.target rows.depth target rows.target)
    → r ≡ fault_of build.policy build.matching Q.columns P.columns

abbrev pub HasCounterpart : Build → ℕ → Bytes → Fields → Label → Bool → Type 0
HasCounterpart build d target fields l r =
    (P : FieldsAt build.target d target fields) → r ≡ not (is_absent (counterpart build.matching l P.columns))

abbrev pub NoExtra : Build → Rows → Bytes → Bytes → Bool → Type 0
NoExtra build rows incoming target r =
    (P : FieldsAt build.incoming rows.depth incoming rows.incoming) (Q : FieldsAt build.target rows.depth target rows.target)
    → r ≡ no_extra_of build.matching P.columns Q.columns

-- 55 of a column, whose type is read in any edition, and a target column of this mark
abbrev pub KeepsRequired : Column → Bool → Bytes → Bool → Type 0
KeepsRequired column required incoming r =
    (v : Edition) (d : ℕ) (P : TypeAt v d incoming column.cursor.at) (l : Label) → l.required ≡ required
    → r ≡ keeps_required (label_at incoming column.label) P.tree l

-- ---- a leaf

-- the target type is this leaf type
abbrev pub LeafStands : Build → Types → Bytes → LeafSpan → Type 0
LeafStands build types target u = (Q : TypeAt build.target types.depth target types.target.at) → Q.tree ≡ cleaf (leaf_at target u)

abbrev pub AttachedLeaf : Build → Types → Place → Bytes → Bytes → Bytes → Made → Bytes → Type 0
AttachedLeaf build types place incoming target out r out' =
    (d : Defaults)
    (P : TypeAt build.incoming types.depth incoming types.incoming.at)
    (Q : TypeAt build.target types.depth target types.target.at)
    → Makes types.target.at Q.end out place.k (attach_transforms build.matching build.policy d Q.tree place.position P.tree) r out'

-- ---- the value of a column with no counterpart

abbrev pub FieldDefault : Build → ℕ → Bytes → Bytes → FieldId → Cursor → Bytes → ℕ → DefaultMade → Bytes → Type 0
FieldDefault build depth table target id b out k r out' =
    (T : TableAt table build.defaults) (Q : TypeAt build.target depth target b.at)
    → MakesDefault (filled_in_of Q.tree) b.at Q.end out k (build_iceberg_default_value (defaults_at build.defaults T) id Q.tree) r out'

abbrev pub FieldsDefaults : Build → ℕ → Bytes → Bytes → Fields → Bytes → ℕ → DefaultsMade → Bytes → Type 0
FieldsDefaults build depth table target fields out k r out' =
    (T : TableAt table build.defaults) (Q : FieldsAt build.target depth target fields)
    → MakesDefaults Q.columns fields.first.at Q.end out k (defaults_of (defaults_at build.defaults T) Q.columns) r out'

abbrev pub PutMissing : Missing → Build → ℕ → Bytes → Bytes → Column → Bytes → ℕ → Made → Bytes → Type 0
PutMissing missing build depth table target column out k r out' =
    (from : ℕ) (T : TableAt table build.defaults) (Q : TypeAt build.target depth target column.cursor.at) → from < column.cursor.at
    → Makes from Q.end out k
    (missingColumn (defaults_at build.defaults T) missing.insert missing.number (label_at target column.label) Q.tree) r out'
