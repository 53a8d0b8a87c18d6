-- What is promised of the count sheet holds.
use mathlib.Core.Path.{◌≡◌, refl, sym, ap, fun_ext, ◌∙◌}
use mathlib.Core.Bool.{true}
use mathlib.Core.List.{List}
use Prim.Native.Nat.{ℕ, max, ◌+◌, ◌*◌, ◌/◌, ◌%◌, ◌^◌, ◌<◌}
use native.Mathlib.Nat.{mul-one}
use borrow.Author.Tests.{lt-leb}
use lib.ListN.{take, drop, replicate, length-replicate}
use lib.Pow.{high, low}
use Rattle.refusals.specs.Left.{left}
use Rattle.refusals.proofs.Left.{left_alike}
use Rattle.buffers.specs.Written.{in_front}
use Rattle.buffers.proofs.Written.{in_front_take, in_front_drop}
use Rattle.counting.specs.Sum.{sum}
use Rattle.counting.specs.Choice.{over, total}
use Rattle.counting.proofs.Sum.{sum_ext, sum_const, sum_swap, sum_one}
use Rattle.counting.proofs.Over.{choices}
use Rattle.table.specs.Balanced.{at}
use Rattle.table.specs.Tabulate.{tabulate}
use Rattle.table.proofs.Tabulate.{tabulate_at, tabulate_long}
use Rattle.table.proofs.Refusals.{table_accepted}
use Rattle.lookup.specs.Call.{log_of, log_length, scratch_length}
use Rattle.secrecy.specs.Count.{mask_widths}
use Rattle.secrecy.specs.Promises.{TellsNothing, ChoicesCounted}
use Rattle.secrecy.proofs.Promises.{tells_nothing, choices_counted}
use Rattle.buffers.proofs.Written.{in_front_at}
use Rattle.count_sheet.specs.declared.ProbePair.{ProbePair}
use Rattle.count_sheet.specs.Refusals.{value_width, pair_checks, buffer_checks, sheet_checks, count_refusal}
use Rattle.count_sheet.specs.Sheet.{count_for, counts, sheet_left, scratch_left, log_left}
use Rattle.count_sheet.specs.Runs.{Countable, numbered_case, place_of}
use Rattle.count_sheet.specs.Promises.{NothingElseRefused, EntryRight, EntrySmall, SumRight, with_secret, SecretsAlike, ZerosLeft, RestKept}
use Rattle.count_sheet.proofs.Checking.{at_pair, at_buffers, at_sheet, sheet_refused, accepted}
use Rattle.count_sheet.proofs.Running.{place_below, place_within}
use Rattle.count_sheet.proofs.Tallying.{counted_at, count_is, count_most}

pub nothing_else_refused : NothingElseRefused
unfolding NothingElseRefused value_width
nothing_else_refused table scratch log sheet p t bytes entries size =
    sym
    (sheet_refused p table scratch log sheet 0 (at_pair p table true (sym t.method) 0 refl (sym t.table) refl (2 ^ p.n) refl t.secret) refl
    0 0 (at_buffers p scratch log _ refl bytes _ refl entries) refl
    (at_sheet p sheet t.input t.output _ refl t.first t.second _ refl size))

-- an entry of an accepted count, by its two digits
module _ (table scratch log sheet : List ℕ) (p : ProbePair) (e : count_refusal p table scratch log sheet ≡ 0) where
  entry_is : (i : ℕ) → i < 2 ^ (2 * value_width p)
      → at (sheet_left p table scratch log sheet) i ≡ count_for table p (i / 2 ^ value_width p) (i % 2 ^ value_width p)
  unfolding sheet_left left counts at
  entry_is i h =
      rw e
      (in_front_at (counts table p) sheet i (rw (tabulate_long (2 ^ (2 * value_width p)) (λ j. count_for table p (j / 2 ^ value_width p) (j % 2 ^ value_width p))) h)
      ∙ tabulate_at _ _ i h)

pub entry_right : EntryRight
unfolding EntryRight count_for
entry_right table scratch log sheet p u v e hu hv =
    let k = value_width p in
    entry_is table scratch log sheet p e (u * 2 ^ k + v) (place_below k u v hu hv) ∙ rw (high u k hv, low u k hv)

pub entry_small : EntrySmall
unfolding EntrySmall
entry_small table scratch log sheet p i e h =
    let t : Countable p table = (accepted p table scratch log sheet e).countable in
    rw (entry_is table scratch log sheet p e i h) (count_most p table t i)

-- the entries together, of a countable pair: each choice is counted in one of them
all_counted : (table scratch log sheet : List ℕ) (p : ProbePair) → count_refusal p table scratch log sheet ≡ 0
    → sum (2 ^ (2 * value_width p)) (at (sheet_left p table scratch log sheet)) ≡ over (mask_widths p.method p.n p.m) (λ c. 1)
all_counted table scratch log sheet p e =
    let t : Countable p table = (accepted p table scratch log sheet e).countable in
    let widths = mask_widths p.method p.n p.m in
    let size = 2 ^ (2 * value_width p) in
    sum_ext size (λ i h. entry_is table scratch log sheet p e i h ∙ count_is p table t i)
    ∙ sum_swap size (2 ^ total widths) (λ i k. counted_at p table k i)
    ∙ sum_ext (2 ^ total widths) (λ k _. once p table t k)
    ∙ sum_const (2 ^ total widths) 1 ∙ mul-one _ ∙ sym (choices widths)
  where
    once : (p : ProbePair) (table : List ℕ) (t : Countable p table) (k : ℕ) → sum (2 ^ (2 * value_width p)) (λ i. counted_at p table k i) ≡ 1
    once p table t k =
        sum_ext (2 ^ (2 * value_width p)) (λ i _. sym (mul-one _))
        ∙ sum_one (2 ^ (2 * value_width p)) (place_of p (log_of (numbered_case p k) table)) (λ i. 1) (place_within p table t k)

pub sum_right : SumRight
unfolding SumRight ChoicesCounted
sum_right table scratch log sheet p e =
    let all = all_counted table scratch log sheet p e in
    let numbers = choices_counted p.n p.m in
    (λ two. all ∙ rw two numbers.0, λ three. all ∙ rw three numbers.1, λ five. all ∙ rw five numbers.2)

-- two secrets of the table's width: neither is refused, and the counts are those of the third demand
module _ (table scratch log sheet : List ℕ) (p : ProbePair) (x y : ℕ) (hx : x < 2 ^ p.n) (hy : y < 2 ^ p.n) where
  refused_alike : count_refusal (with_secret x p) table scratch log sheet ≡ count_refusal (with_secret y p) table scratch log sheet
  unfolding count_refusal pair_checks buffer_checks sheet_checks value_width with_secret
  refused_alike = rw (lt-leb (2 ^ p.n) x hx, lt-leb (2 ^ p.n) y hy)

  counts_alike : count_refusal (with_secret x p) table scratch log sheet ≡ 0 → counts table (with_secret x p) ≡ counts table (with_secret y p)
  unfolding counts count_for value_width with_secret TellsNothing
  counts_alike e =
      let t = (accepted (with_secret x p) table scratch log sheet e).countable in
      let side = 2 ^ max p.n p.m in
      let fitness = (table_accepted p.n p.m table t.table).fitness in
      ap (tabulate (2 ^ (2 * max p.n p.m)))
      (fun_ext (λ i. tells_nothing table p.method p.n p.m x y p.first p.second (i / side) (i % side) fitness
      t.method hx hy))

pub secrets_alike : SecretsAlike
unfolding SecretsAlike sheet_left scratch_left log_left with_secret
secrets_alike table scratch log sheet p x y hx hy =
    let same = refused_alike table scratch log sheet p x y hx hy in
    let counted = counts_alike table scratch log sheet p x y hx hy in (
      same,
      left_alike _ _ _ _ sheet same (λ e. ap (λ new. in_front new sheet) (counted e)),
      left_alike _ _ _ _ scratch same (λ e. refl),
      left_alike _ _ _ _ log same (λ e. refl),
    )

-- a buffer with as many zeros in front
module _ (k : ℕ) (old : List ℕ) where
  zeros_taken : take k (in_front (replicate k 0) old) ≡ replicate k 0
  zeros_taken = in_front_take (replicate k 0) old k (length-replicate k 0)

  zeros_dropped : drop k (in_front (replicate k 0) old) ≡ drop k old
  zeros_dropped = in_front_drop (replicate k 0) old k (length-replicate k 0)

pub zeros_left : ZerosLeft
unfolding ZerosLeft scratch_left log_left left
zeros_left table scratch log sheet p e =
    rw e (zeros_taken (scratch_length p.method p.n) scratch, zeros_taken (log_length p.method p.n) log)

pub rest_kept : RestKept
unfolding RestKept scratch_left log_left sheet_left left counts
rest_kept table scratch log sheet p e =
    let size = 2 ^ (2 * value_width p) in
    rw e (
      zeros_dropped (scratch_length p.method p.n) scratch,
      zeros_dropped (log_length p.method p.n) log,
      in_front_drop (counts table p) sheet size (tabulate_long size _),
    )
