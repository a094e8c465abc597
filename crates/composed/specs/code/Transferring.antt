-- What an answer of the one-pass run of a plan says: of one that gives up, nothing.
use Rattle.std.specs.Prelude.{Bool}
use Rattle.layout.specs.Bytes.{Bytes}
use Rattle.transfer.specs.code.Reaching.{Kept}
use Rattle.composed.specs.declared.whole.Transferred.{Transferred}

abbrev pub TransferredAnswer : Bool → Bytes → Bytes → Transferred → Bytes → Type 0
TransferredAnswer ok b out (Transferred.To r) out' = Kept ok b out 0 r out'
TransferredAnswer ok b out Transferred.Unknown out' = Unit {0}

pub record TransferredIs (ok : Bool) (b : Bytes) (out : Bytes) (r : Transferred) (out' : Bytes) : Type 0 where
  pub answer : TransferredAnswer ok b out r out'
