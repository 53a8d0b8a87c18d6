-- A layer's promises hold, since each call alone tells nothing, and is accepted on clean scratch.
use mathlib.Core.Path.{◌≡◌, ap, ◌∙◌}
use Prim.Native.Nat.{ℕ, ◌+◌, ◌*◌, ◌^◌, ◌<◌}
use native.Mathlib.Omega.{arith}
use Rattle.counting.specs.Choice.{total}
use Rattle.counting.proofs.Over.{choices}
use Rattle.counting.proofs.Repeated.{total_repeated}
use Rattle.table.proofs.Full.{balanced_fit}
use Rattle.sbox.specs.Sbox.{sbox}
use Rattle.sbox.specs.Promises.{SboxBalanced}
use Rattle.sbox.proofs.Promises.{sbox_balanced}
use Rattle.lookup.specs.Methods.{found, method_of}
use Rattle.lookup.specs.Call.{log_of, log_length}
use Rattle.lookup.proofs.Methods.{known_2}
use Rattle.calls.specs.Reply.{logged_log}
use Rattle.secrecy.specs.Count.{mask_widths, count, call_count}
use Rattle.secrecy.specs.Promises.{TellsNothing, CallTellsNothing}
use Rattle.secrecy.proofs.Promises.{tells_nothing}
use Rattle.secrecy.proofs.Lent.{call_tells_nothing}
use Rattle.layer.specs.Layer.{layer_widths, layer_count, layer_call_count}
use Rattle.layer.specs.Promises.{LogsTellNothing, LayerTellsNothing, SboxLayerTellsNothing, LayerCallsTellNothing}
use Rattle.layer.specs.Promises.{LayerChoicesAccepted, LayerCallsCounted, ChoicesCounted}
use Rattle.layer.proofs.Alike.{calls_alike}
use Rattle.layer.proofs.Lent.{call_accepted, calls_counted}

-- any entry is fit to be asked for
pub logs_tell_nothing : (calls : ℕ) → LogsTellNothing calls
unfolding LogsTellNothing layer_count TellsNothing count
logs_tell_nothing calls table n m x y a b i j u v fitness hx hy ha hb =
    calls_alike n m (λ e. Unit {0}) (λ k case. log_of case table) calls x y
    (λ k l i j u v _ _. tells_nothing table 2 n m (x k) (y k) i j u v fitness known_2 (hx k l) (hy k l))
    a b i j u v ha hb tt tt

pub layer_tells_nothing : LayerTellsNothing
unfolding LayerTellsNothing
layer_tells_nothing = logs_tell_nothing 16

pub sbox_layer_tells_nothing : SboxLayerTellsNothing
unfolding SboxLayerTellsNothing LayerTellsNothing LogsTellNothing SboxBalanced
sbox_layer_tells_nothing x y a b i j u v = layer_tells_nothing sbox 8 8 x y a b i j u v (balanced_fit 8 8 sbox sbox_balanced)

-- the entries below the log's length are fit
pub layer_calls_tell_nothing : LayerCallsTellNothing
unfolding LayerCallsTellNothing layer_call_count CallTellsNothing call_count
layer_calls_tell_nothing table scratch lent n m x y a b i j u v accepted hx hy =
    calls_alike n m (λ e. e < log_length 2 n) (λ k case. logged_log case table (scratch k) (lent k)) 16 x y
    (λ k l i j u v. call_tells_nothing table (scratch k) (lent k) 2 n m (x k) (y k) i j u v accepted known_2 (hx k l) (hy k l))
    a b i j u v

pub layer_choices_accepted : LayerChoicesAccepted
unfolding LayerChoicesAccepted
layer_choices_accepted table scratch lent n m x choice k accepted inputs fit =
    call_accepted table scratch lent 16 n m x accepted inputs fit choice k

pub layer_calls_counted : LayerCallsCounted
unfolding LayerCallsCounted
layer_calls_counted table scratch lent n m x a b i j u v accepted inputs fit ha hb hi hj =
    calls_counted table scratch lent 16 n m x accepted inputs fit a b i j u v ha hb hi hj

pub choices_counted : ChoicesCounted
unfolding ChoicesCounted layer_widths mask_widths method_of found total
choices_counted n m =
    let one : total (mask_widths 2 n m) ≡ 3 * n + 2 * m = omega arith in
    choices (layer_widths 16 n m) ∙ ap (λ t. 2 ^ t) (total_repeated (mask_widths 2 n m) 16) ∙ rw one
