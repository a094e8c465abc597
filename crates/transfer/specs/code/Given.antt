-- What selectors give over what they take: what an answer of the one-pass run says of it.
use Rattle.std.specs.Prelude.{ℕ}
use Rattle.layout.specs.Bytes.{Bytes}
use Rattle.values.specs.Value.{Values, vnil, vcons}
use Rattle.values.specs.Encode.{encode_value, encode_values}
use Rattle.plan.specs.Run.{map_values, eval, evals, clean, clean_all_of}
use Rattle.walk.specs.code.Stands.{SelectorAt, SelectorsAt}
use Rattle.nodes.specs.code.Raw.{RowAt, ElementsAt}
use Rattle.layout.specs.declared.edition.Edition.{Edition}
use Rattle.transfer.specs.code.Reaching.{ReachedIs}
use Rattle.transfer.specs.declared.leaf.Reached.{Reached}
use Rattle.transfer.specs.declared.leaf.Selectors.{Selectors}
use Rattle.transfer.specs.declared.row.Elements.{Elements}

abbrev pub SelectorsIn : Bytes → Selectors → Type 0
SelectorsIn plan s = SelectorsAt plan s.count s.first.selector.at

abbrev pub ElementsIn : Bytes → Bytes → Elements → Type 0
ElementsIn lay rec e = ElementsAt e.edition lay e.count e.element.at rec e.values.at

-- what the selector P gives over the values ρ was stored
abbrev pub SelectorReached : {plan : Bytes} {at : ℕ} → Values → SelectorAt plan at → Bytes → ℕ → Reached → Bytes → Type 0
SelectorReached ρ P out k r out' = ReachedIs (clean (eval ρ P.tree)) (encode_value (eval ρ P.tree)) P.end out k r out'

-- what the selectors S give over the row X
abbrev pub RowReached : {v : Edition} {lay : Bytes} {n t : ℕ} {rec : Bytes} {c : ℕ} {plan : Bytes} {m at : ℕ} → RowAt v lay n t rec c → SelectorsAt plan
    m at → Bytes → ℕ → Reached → Bytes → Type 0
RowReached X S out k r out' = ReachedIs (clean_all_of (evals X.values.values S.trees)) (encode_values (evals X.values.values S.trees)) S.end
    out k r out'

-- what the selector P gives over each of the elements X, of a mapping that ends at e
abbrev pub ElementsReached : {v : Edition} {lay : Bytes} {n t : ℕ} {rec : Bytes} {c : ℕ} {plan : Bytes} {at : ℕ} → ElementsAt v lay n t rec c →
    SelectorAt plan at → ℕ → Bytes → ℕ → Reached → Bytes → Type 0
ElementsReached X P e out k r out' =
    ReachedIs (clean_all_of (map_values (λ x. eval (vcons x vnil) P.tree) X.values.values))
    (encode_values (map_values (λ x. eval (vcons x vnil) P.tree) X.values.values)) e out k r out'
