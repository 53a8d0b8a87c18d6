-- What is promised of the linear layer holds.
use mathlib.Core.Path.{sym, ◌∙◌}
use Prim.Native.Nat.{ℕ, ◌^◌, ◌<◌}
use Rattle.bits.specs.Xor.{◌⊕◌}
use Rattle.bits.proofs.Xor.{xors, below}
use Rattle.shares.specs.Shares.{reply}
use Rattle.shares.proofs.Promises.{refusal_of, joins}
use Rattle.linear.specs.Layer.{mapped, layer}
use Rattle.linear.specs.Promises.{MapLinear, LayerJoins}
use Rattle.linear.proofs.Matrix.{mapped_linear, mapped_below}
use Rattle.linear.proofs.Refusal.{accepted}

pub map_linear : MapLinear
unfolding MapLinear
map_linear = mapped_linear

pub layer_joins : LayerJoins
unfolding LayerJoins layer reply
layer_joins n m rows k a b c e =
    let z = sym (refusal_of _ _ _ _) ∙ e in
    let known = accepted n m rows k a b c z in
    let small : (x : ℕ) → mapped rows x < 2 ^ m = λ x. rw known.counted at (mapped_below rows x) in
    rw (z, mapped_linear rows (a ⊕ b) c, mapped_linear rows a b)
    (joins m _ _ _ known.width (below m (small a) known.constant) (small b) (small c) ∙ simp xors)
