-- The leak test. `fine system e f` computes, and where it passes, whoever sees the values of e and f learns nothing of the secrets: for
-- every even table and all widths, a word being twice as wide as its halves and a bit one bit wide, whatever is computed from the two comes
-- out equally often whatever the secrets are. That is `Alike`, and `alike` of proofs/Sound proves it, so nothing here need be believed. To
-- test an algorithm, list its masks, secrets and tables as a System, write each value that it shows as an expression, and run `all_fine` on
-- lists of them; one probe alone is an expression beside itself. A system has one class of words with halves: where there are none, `word` and
-- `part` are a class of width 0. The test reads the class of a public number and never its value, which may be a variable. It may fail where
-- nothing leaks.
use Rattle.std.specs.Prelude.{Bool, true, false, cond, not, ◌&&◌, ◌||◌, List, [], ◌∷◌, ℕ, zero, suc, eqb, ltb, length, get_or}
use Rattle.std.specs.Bool.{beq}
use Rattle.std.proofs.Math.Bool.{xor}
use Rattle.probing.specs.Expression.{Expression, secret, mask, number, ◌⊞◌, lookup, differ, half, System, table}
use Rattle.probing.specs.Search.{some_shift, some_place, each_place, every}

-- One secret, at place j, is changed, and a shift adds the difference of its two values to some of the masks.
-- Whether an expression is then off by that difference,
unfoldable pub off : (place : ℕ) (shift : List Bool) → Expression → Bool
unfolding xor
off j shift (secret k) = eqb k j
off j shift (mask i) = get_or shift i false
off j shift (number class a) = false
off j shift (e ⊞ f) = xor (off j shift e) (off j shift f)
off j shift (lookup t e) = false
off j shift (differ e f) = false
off j shift (half k s w) = false

-- and whether that can be told: of a lookup only if its index is kept, of a comparison only if both sides are off or both are kept, of a half
-- only if its bit and its word are kept
unfoldable pub tracked : (place : ℕ) (shift : List Bool) → Expression → Bool
unfolding off
tracked j shift (secret k) = true
tracked j shift (mask i) = true
tracked j shift (number class a) = true
tracked j shift (e ⊞ f) = tracked j shift e && tracked j shift f
tracked j shift (lookup t e) = tracked j shift e && not (off j shift e)
tracked j shift (differ e f) = tracked j shift e && tracked j shift f && beq (off j shift e) (off j shift f)
tracked j shift (half k s w) = (tracked j shift s && not (off j shift s)) && (tracked j shift w && not (off j shift w))

unfoldable pub off_by : (place : ℕ) (shift : List Bool) (put_off : Bool) → Expression → Bool
unfolding tracked
off_by j shift put_off e = tracked j shift e && beq (off j shift e) put_off

-- some shift keeps f, and keeps e or puts it off
unfoldable pub shiftable : System → (place class : ℕ) → (put_off : Bool) → Expression → Expression → Bool
unfolding off_by some_shift
shiftable system j class put_off e f = some_shift class system.masks (λ shift. off_by j shift put_off e && off_by j shift false f)

-- the expression is of the class, by its form
unfoldable pub of_class : System → (class : ℕ) → Expression → Bool
of_class system class (secret j) = eqb (get_or system.secrets j class) class
of_class system class (mask i) = eqb (get_or system.masks i class) class
of_class system class (number k a) = eqb k class
of_class system class (e ⊞ f) = of_class system class e && of_class system class f
of_class system class (lookup t e) = ltb t (length system.tables) && eqb (table system t).to class
of_class system class (differ e f) = eqb system.flag class
of_class system class (half k s w) = eqb k class && (eqb system.part k && of_class system system.word w)

unfoldable pub absent : (place : ℕ) → Expression → Bool
absent i (secret j) = true
absent i (mask k) = not (eqb k i)
absent i (number class a) = true
absent i (e ⊞ f) = absent i e && absent i f
absent i (lookup t e) = absent i e
absent i (differ e f) = absent i e && absent i f
absent i (half k s w) = absent i s && absent i w

-- how a mask stands in a sum: in one summand only, which is the mask itself, or which looks up an index to which the mask is added
pub data Standing : Type 0 where
  added : Standing
  indexing : (table : ℕ) → (index : Expression) → Standing
  otherwise : Standing

unfoldable pub looked_up : (table : ℕ) → (index : Expression) → Standing → Standing
looked_up t index added = indexing t index
looked_up t index (indexing _ _) = otherwise
looked_up t index otherwise = otherwise

unfoldable pub standing : (place : ℕ) → Expression → Standing
unfolding absent looked_up
standing i (secret j) = otherwise
standing i (mask k) = cond (eqb k i) added otherwise
standing i (number class a) = otherwise
standing i (e ⊞ f) = cond (absent i f) (standing i e) (cond (absent i e) (standing i f) otherwise)
standing i (lookup t e) = looked_up t e (standing i e)
standing i (differ e f) = otherwise
standing i (half k s w) = otherwise

-- the table's index is of the class, and the secret at place j is one of its entries
unfoldable pub leads : System → (table class place : ℕ) → Bool
leads system t class j = ltb t (length system.tables) && eqb (table system t).from class && eqb (table system t).output j

-- The two rules for a mask i of class k that is absent from f. Where it is added to the whole of e, e may be replaced by it. Where it is
-- added to a table's index, it makes the index any number of its class, so e may be off by the difference of two entries of the table.
unfoldable pub covered : System → (place class mask_place mask_class : ℕ) → Expression → Expression → Standing → Bool
unfolding of_class shiftable leads
covered system j class i k e f added =
    let kept = shiftable system j class false (mask i) f in
    of_class system k e && kept
covered system j class i k e f (indexing t index) =
    let put_off = shiftable system j class true e f in
    leads system t k j && of_class system k index && put_off
covered system j class i k e f otherwise = false

-- one of the two rules applies for some mask
unfoldable pub masked : System → (place class : ℕ) → Expression → Expression → Bool
unfolding standing covered some_place
masked system j class e f =
    some_place system.masks
    (λ i k.
    let rule = covered system j class i k e f (standing i e) in
    absent i f && rule)

-- The exchange rule, where the secret at place j is a bit. It is flipped, and the two halves of every word, mask or other secret, are
-- exchanged.
-- Whether the number at a place is such a word,
unfoldable pub is_word : System → (classes : List ℕ) → (place : ℕ) → Bool
is_word system [] i = false
is_word system (k ∷ ks) zero = eqb k system.word
is_word system (k ∷ ks) (suc i) = is_word system ks i

-- whether an expression reads none, so that of the change it sees only the bit's,
unfoldable pub reads_no_word : System → (place : ℕ) → Expression → Bool
unfolding is_word
reads_no_word system j (secret k) = eqb k j || not (is_word system system.secrets k)
reads_no_word system j (mask i) = not (is_word system system.masks i)
reads_no_word system j (number class a) = true
reads_no_word system j (e ⊞ f) = reads_no_word system j e && reads_no_word system j f
reads_no_word system j (lookup t e) = reads_no_word system j e
reads_no_word system j (differ e f) = reads_no_word system j e && reads_no_word system j f
reads_no_word system j (half k s w) = false

-- and whether it is a sum of them, so that its halves are exchanged;
unfoldable pub sum_of_words : System → (place : ℕ) → Expression → Bool
unfolding is_word
sum_of_words system j (secret k) = not (eqb k j) && is_word system system.secrets k
sum_of_words system j (mask i) = is_word system system.masks i
sum_of_words system j (number class a) = false
sum_of_words system j (e ⊞ f) = sum_of_words system j e && sum_of_words system j f
sum_of_words system j (lookup t e) = false
sum_of_words system j (differ e f) = false
sum_of_words system j (half k s w) = false

-- the expression is a bit that is flipped, so that of an exchanged word it chooses the same number;
unfoldable pub flipped : System → (place : ℕ) → Expression → Bool
unfolding reads_no_word off_by of_class
flipped system j s = reads_no_word system j s && off_by j [] true s && of_class system system.bit s

-- and so the expression keeps its value
unfoldable pub kept_by_exchange : System → (place : ℕ) → Expression → Bool
unfolding is_word sum_of_words flipped
kept_by_exchange system j (secret k) = not (eqb k j) && not (is_word system system.secrets k)
kept_by_exchange system j (mask i) = not (is_word system system.masks i)
kept_by_exchange system j (number class a) = true
kept_by_exchange system j (e ⊞ f) = kept_by_exchange system j e && kept_by_exchange system j f
kept_by_exchange system j (lookup t e) = kept_by_exchange system j e
kept_by_exchange system j (differ e f) = kept_by_exchange system j e && kept_by_exchange system j f
kept_by_exchange system j (half k s w) = eqb k system.part && flipped system j s && sum_of_words system j w

-- Both expressions keep their values, and each other secret whose halves were exchanged is changed back by a shift. That the secret is a bit
-- and that the words go back is asked here so that the rule is sound for this secret by itself.
unfoldable pub exchangeable : System → (place class : ℕ) → Expression → Expression → Bool
unfolding kept_by_exchange is_word shiftable each_place
exchangeable system j class e f =
    let words_back = each_place system.secrets (λ k c. not (is_word system system.secrets k) || shiftable system k c false e f) in
    eqb class system.bit && kept_by_exchange system j e && kept_by_exchange system j f && words_back

-- whether a change of one secret is unseen: by a shift, by one of the two rules for a mask with e and f either way round, or by the exchange
unfoldable pub unseen : System → (place class : ℕ) → Expression → Expression → Bool
unfolding masked exchangeable
unseen system j class e f =
    let first = masked system j class e f in
    let second = masked system j class f e in
    let third = exchangeable system j class e f in
    shiftable system j class false e f || first || second || third

-- if so for each secret, then so for all of them, one after the other
unfoldable pub fine : System → Expression → Expression → Bool
unfolding unseen each_place
fine system e f = each_place system.secrets (λ j class. unseen system j class e f)

-- each of one list beside each of another
unfoldable pub all_fine : System → List Expression → List Expression → Bool
unfolding fine every
all_fine system es fs = every (λ e. every (fine system e) fs) es
