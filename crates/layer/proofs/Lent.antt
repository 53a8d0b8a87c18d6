-- On clean scratch every call accepts every choice that is counted, and what the calls leave in the lent logs is what is counted.
use mathlib.Core.Path.{◌≡◌, ap}
use mathlib.Core.List.{List}
use Prim.Native.Nat.{ℕ, ◌<◌}
use Rattle.counting.specs.Choice.{Within}
use Rattle.counting.proofs.Over.{over_ext}
use Rattle.counting.proofs.Append.{appended}
use Rattle.counting.proofs.Repeated.{part, part_within}
use Rattle.table.specs.Refusals.{table_refusal}
use Rattle.lookup.specs.Entry.{value_of}
use Rattle.lookup.specs.Methods.{found, method_of}
use Rattle.lookup.specs.Call.{log_of, log_length}
use Rattle.lookup.specs.Refusals.{logged_refusal}
use Rattle.lookup.proofs.Methods.{known_2}
use Rattle.calls.specs.Reply.{logged_log}
use Rattle.secrecy.specs.Count.{chosen_case, mask_widths, value_at}
use Rattle.secrecy.specs.Promises.{ChoicesAccepted, LentLogCounted}
use Rattle.secrecy.proofs.Lent.{choices_accepted, lent_log_counted}
use Rattle.layer.specs.Layer.{InputsFit, LentFit, layer_widths, places, call_case, count_by, layer_count, layer_call_count}

module _ (table : List ℕ) (scratch lent : ℕ → List ℕ) (calls n m : ℕ) (x : ℕ → ℕ) where
  -- call k's masks alone, as a single call's choice
  abbrev own : (k : ℕ) → (choice : ℕ → ℕ) → ℕ → ℕ
  own k c = appended 6 (part (mask_widths 2 n m) k c) (λ i. 0)

  module _ (accepted : table_refusal n m table ≡ 0) (inputs : InputsFit calls n x) (fit : LentFit calls n scratch lent) where
    pub call_accepted : (c : ℕ → ℕ) (k : ℕ) → Within (layer_widths calls n m) c → k < calls
        → logged_refusal (call_case n m x c k) table (scratch k) (lent k) ≡ 0
    unfolding ChoicesAccepted layer_widths places call_case chosen_case mask_widths method_of found
    call_accepted c k inside l =
        choices_accepted table (scratch k) (lent k) 2 n m (x k) (own k c) accepted known_2 (inputs k l)
        (part_within (mask_widths 2 n m) calls c inside k l) (fit k l).0 (fit k l).1 (fit k l).2

    entry_counted : (c : ℕ → ℕ) → Within (layer_widths calls n m) c → (k p : ℕ) → k < calls → p < log_length 2 n
        → value_at (logged_log (call_case n m x c k) table (scratch k) (lent k)) p ≡ value_at (log_of (call_case n m x c k) table) p
    unfolding LentLogCounted places call_case chosen_case mask_widths method_of found value_at
    entry_counted c inside k p l h =
        ap value_of (lent_log_counted table (scratch k) (lent k) 2 n m (x k) (own k c) p (call_accepted c k inside l) h)

    pub calls_counted : (a b i j u v : ℕ) → a < calls → b < calls → i < log_length 2 n → j < log_length 2 n
        → layer_call_count table scratch lent calls n m x a b i j u v ≡ layer_count table calls n m x a b i j u v
    unfolding layer_call_count layer_count count_by
    calls_counted a b i j u v ha hb hi hj =
        over_ext (layer_widths calls n m) (λ c inside. rw (entry_counted c inside a i ha hi, entry_counted c inside b j hb hj))
