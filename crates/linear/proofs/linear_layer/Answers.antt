-- `linear::linear_layer` meets its contract.
use mathlib.Core.Path.{◌≡◌}
use mathlib.Core.List.{List}
use Prim.Native.Nat.{ℕ}
use lib.Bits.{bit_xor}
use Rattle.bits.specs.Xor.{◌⊕◌}
use Rattle.refusals.proofs.Numbers.{handed_on}
use Rattle.shares.specs.Shares.{SharesReply}
use Rattle.shares.proofs.Replies.{refused, accepted}
use Rattle.linear.specs.Layer.{layer, layer_refusal, mapped}
use Rattle.linear.proofs.Refusal.{few_rows}
use Rattle.linear.proofs.linear_layer.Goals as goal

-- an accepted layer's numbers, from what the calls told
done : (n m : ℕ) (rows : List ℕ) (k a b c f g h : ℕ) → 0 ≡ layer_refusal n m rows k a b c
    → f ≡ mapped rows a → g ≡ mapped rows b → h ≡ mapped rows c
    → ◌≡◌ {A = SharesReply} record { refusal = 0; first = bit_xor f k; second = g; third = h } (layer n m rows k a b c)
unfolding layer ◌⊕◌
done n m rows k a b c f g h e p q s = rw (p, q, s) (accepted _ _ _ _ e)

pub returns-in_err-layer_refusal : goal.returns-in_err-layer_refusal
unfolding layer
returns-in_err-layer_refusal c = rw (handed_on _ _ c.from_residual.ensures.1) (refused _ _ _ _ _ c.in_err-layer_refusal.ensures)

pub mapped-requires : goal.mapped-requires
mapped-requires c = few_rows _ _ _ _ _ _ _ c.in_ok-layer_refusal.ensures

pub mapped-requires-2 : goal.mapped-requires-2
mapped-requires-2 c = few_rows _ _ _ _ _ _ _ c.in_ok-layer_refusal.ensures

pub mapped-requires-3 : goal.mapped-requires-3
mapped-requires-3 c = few_rows _ _ _ _ _ _ _ c.in_ok-layer_refusal.ensures

pub returns : goal.returns
returns c = done _ _ _ _ _ _ _ _ _ _ c.in_ok-layer_refusal.ensures c.mapped.ensures c.mapped-2.ensures c.mapped-3.ensures
