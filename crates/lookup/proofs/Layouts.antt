-- The laws of a layout: its length, what holds of every line, and layouts whose rows show the same.
use mathlib.Core.Path.{◌≡◌, refl, sym, ap, ap₂, ◌∙◌}
use mathlib.Core.List.{List, [], ◌∷◌, ◌++◌, map, map-append, append_assoc}
use Prim.Native.Nat.{ℕ, zero, suc, ◌+◌, ◌*◌, ◌<◌}
use native.Mathlib.Omega.{arith}
use lib.ListN.{length, get_or, length-append, length-map, get_or-append}
use lib.Seq.{get_or-append-add}
use Rattle.table.specs.Balanced.{at}
use Rattle.lookup.specs.Layout.{Layout, pass_lines, passes_lines, lines, all_rows, layout_size}
use Rattle.lookup.proofs.Each.{Each, none, more, each_append, each_split, each_image}

module _ {A B : Type 0} (show : ℕ → A → B) where
  pub pass_long : (turns : ℕ) (pass : List A) → length (pass_lines show turns pass) ≡ length pass * turns
  unfolding pass_lines
  pass_long zero pass = omega arith
  pass_long (suc a) pass =
      length-append (pass_lines show a pass) (map (show a) pass) ∙ rw (pass_long a pass, length-map pass (show a)) (omega arith)

  pub passes_long : (turns : ℕ) (passes : List (List A)) → length (passes_lines show turns passes) ≡ length (all_rows passes) * turns
  unfolding passes_lines
  passes_long turns [] = omega arith
  passes_long turns (p ∷ ps) =
      length-append (pass_lines show turns p) (passes_lines show turns ps)
      ∙ rw (pass_long turns p, passes_long turns ps, length-append p (all_rows ps)) (omega arith)

  pub lines_long : (turns : ℕ) (l : Layout A) → length (lines show turns l) ≡ layout_size turns l
  unfolding lines
  lines_long turns l =
      length-append (map (show 0) l.head ++ passes_lines show turns l.passes) (map (show 0) l.end)
      ∙ rw (length-append (map (show 0) l.head) (passes_lines show turns l.passes), length-map l.head (show 0))
      (rw (passes_long turns l.passes, length-map l.end (show 0)))

  -- what holds of every row at every turn holds of every line
  each_pass : {P : B → Type 0} (turns : ℕ) (pass : List A) → ((a : ℕ) → a < turns → Each (λ r. P (show a r)) pass)
      → Each P (pass_lines show turns pass)
  unfolding pass_lines
  each_pass zero pass h = none
  each_pass (suc a) pass h = each_append (each_pass a pass (λ i l. h i (omega arith))) (each_image (show a) (h a (omega arith)))

  each_passes : {P : B → Type 0} (turns : ℕ) (passes : List (List A)) → ((a : ℕ) → a < turns → Each (λ r. P (show a r)) (all_rows passes))
      → Each P (passes_lines show turns passes)
  unfolding passes_lines
  each_passes turns [] h = none
  each_passes turns (p ∷ ps) h =
      each_append (each_pass turns p (λ a l. (each_split p (h a l)).0)) (each_passes turns ps (λ a l. (each_split p (h a l)).1))

  pub each_line : {P : B → Type 0} (turns : ℕ) (l : Layout A) → Each (λ r. P (show 0 r)) l.head
      → ((a : ℕ) → a < turns → Each (λ r. P (show a r)) (all_rows l.passes)) → Each (λ r. P (show 0 r)) l.end
      → Each P (lines show turns l)
  unfolding lines
  each_line turns l first middle last =
      each_append (each_append (each_image (show 0) first) (each_passes turns l.passes middle)) (each_image (show 0) last)

pub at_map : {A : Type 0} (f : A → ℕ) (d : A) → f d ≡ 0 → (xs : List A) (i : ℕ) → at (map f xs) i ≡ f (get_or xs i d)
unfolding at
at_map f d e [] i = sym e
at_map f d e (x ∷ xs) zero = refl
at_map f d e (x ∷ xs) (suc i) = at_map f d e xs i

-- a function of every line is a function of what every row shows
module _ {A B C : Type 0} (show : ℕ → A → B) (f : B → C) where
  row_map : (a : ℕ) (rows : List A) → map f (map (show a) rows) ≡ map (λ r. f (show a r)) rows
  row_map a [] = refl
  row_map a (r ∷ rs) = ap (λ l. f (show a r) ∷ l) (row_map a rs)

  pass_map : (turns : ℕ) (pass : List A) → map f (pass_lines show turns pass) ≡ pass_lines (λ a r. f (show a r)) turns pass
  unfolding pass_lines
  pass_map zero pass = refl
  pass_map (suc a) pass = map-append f (pass_lines show a pass) (map (show a) pass) ∙ ap₂ ◌++◌ (pass_map a pass) (row_map a pass)

  passes_map : (turns : ℕ) (passes : List (List A))
      → map f (passes_lines show turns passes) ≡ passes_lines (λ a r. f (show a r)) turns passes
  unfolding passes_lines
  passes_map turns [] = refl
  passes_map turns (p ∷ ps) =
      map-append f (pass_lines show turns p) (passes_lines show turns ps) ∙ ap₂ ◌++◌ (pass_map turns p) (passes_map turns ps)

  pub lines_map : (turns : ℕ) (l : Layout A) → map f (lines show turns l) ≡ lines (λ a r. f (show a r)) turns l
  unfolding lines
  lines_map turns l =
      map-append f (map (show 0) l.head ++ passes_lines show turns l.passes) (map (show 0) l.end)
      ∙ ap₂ ◌++◌
      (map-append f (map (show 0) l.head) (passes_lines show turns l.passes)
      ∙ ap₂ ◌++◌ (row_map 0 l.head) (passes_map turns l.passes))
      (row_map 0 l.end)

-- two layouts whose rows show the same, pass by pass
module _ {A B : Type 0} (f : ℕ → A → ℕ) (g : ℕ → B → ℕ) (turns : ℕ) where
  pub data SamePasses : List (List A) → List (List B) → Type 0 where
    no_pass : SamePasses [] []
    one_pass : {p : List A} {q : List B} {ps : List (List A)} {qs : List (List B)} → ((a : ℕ) → a < turns → map (f a) p ≡ map (g a) q)
        → SamePasses ps qs → SamePasses (p ∷ ps) (q ∷ qs)

  pub record SameRows (k : Layout A) (l : Layout B) : Type 0 where
    pub head : map (f 0) k.head ≡ map (g 0) l.head
    pub passes : SamePasses k.passes l.passes
    pub end : map (f 0) k.end ≡ map (g 0) l.end

  pub pass_same : (count : ℕ) (p : List A) (q : List B) → ((a : ℕ) → a < count → map (f a) p ≡ map (g a) q)
      → pass_lines f count p ≡ pass_lines g count q
  unfolding pass_lines
  pass_same zero p q h = refl
  pass_same (suc a) p q h = ap₂ ◌++◌ (pass_same a p q (λ i l. h i (omega arith))) (h a (omega arith))

  passes_same : {ps : List (List A)} {qs : List (List B)} → SamePasses ps qs → passes_lines f turns ps ≡ passes_lines g turns qs
  unfolding passes_lines
  passes_same no_pass = refl
  passes_same (one_pass {p = p} {q = q} h s) = ap₂ ◌++◌ (pass_same turns p q h) (passes_same s)

  pub lines_same : (k : Layout A) (l : Layout B) → SameRows k l → lines f turns k ≡ lines g turns l
  unfolding lines
  lines_same k l s = ap₂ ◌++◌ (ap₂ ◌++◌ s.head (passes_same s.passes)) s.end

-- two ways of showing that agree on each row of the layout, at each turn
module _ {A : Type 0} (f g : ℕ → A → ℕ) (turns : ℕ) where
  rows_agree : {a : ℕ} {rs : List A} → Each (λ r. f a r ≡ g a r) rs → map (f a) rs ≡ map (g a) rs
  rows_agree none = refl
  rows_agree (more e d) = ap₂ ◌∷◌ e (rows_agree d)

  passes_agree : (ps : List (List A)) → ((a : ℕ) → a < turns → Each (λ r. f a r ≡ g a r) (all_rows ps)) → SamePasses f g turns ps ps
  passes_agree [] h = no_pass
  passes_agree (p ∷ ps) h = one_pass (λ a l. rows_agree (each_split p (h a l)).0) (passes_agree ps (λ a l. (each_split p (h a l)).1))

  pub lines_agree : (l : Layout A) → Each (λ r. f 0 r ≡ g 0 r) l.head
      → ((a : ℕ) → a < turns → Each (λ r. f a r ≡ g a r) (all_rows l.passes)) → Each (λ r. f 0 r ≡ g 0 r) l.end
      → lines f turns l ≡ lines g turns l
  lines_agree l first middle last =
      lines_same f g turns l l (record { head = rows_agree first; passes = passes_agree l.passes middle; end = rows_agree last })

-- what the first turn of a pass shows, and what the end shows, by their positions
module _ {A : Type 0} (show : ℕ → A → ℕ) where
  first_of_pass : (turns : ℕ) (pass : List A) (rest : List ℕ) (i : ℕ) → i < length pass
      → at (pass_lines show (suc turns) pass ++ rest) i ≡ at (map (show 0) pass) i
  unfolding pass_lines at
  first_of_pass zero pass rest i h = get_or-append (map (show 0) pass) rest 0 i (rw (length-map pass (show 0)) h)
  first_of_pass (suc a) pass rest i h =
      ap (λ ls. get_or ls i 0) (append_assoc (pass_lines show (suc a) pass) (map (show (suc a)) pass) rest)
      ∙ first_of_pass a pass (map (show (suc a)) pass ++ rest) i h

  passes_both : (turns : ℕ) (ps qs : List (List A)) → passes_lines show turns (ps ++ qs) ≡ passes_lines show turns ps ++ passes_lines show turns qs
  unfolding passes_lines
  passes_both turns [] qs = refl
  passes_both turns (p ∷ ps) qs = ap (λ ls. pass_lines show turns p ++ ls) (passes_both turns ps qs) ∙ sym (append_assoc (pass_lines show turns p) _ _)

  pub at_first_turn : (turns : ℕ) (head : List A) (before : List (List A)) (pass : List A) (behind : List (List A)) (end : List A) (i : ℕ)
      → i < length pass
      → at (lines show (suc turns) (record { head = head; passes = before ++ pass ∷ behind; end = end }))
      (length head + length (all_rows before) * suc turns + i)
      ≡ at (map (show 0) pass) i
  unfolding lines passes_lines at
  at_first_turn turns head before pass behind end i h =
      let one = map (show 0) head in
      let two = passes_lines show (suc turns) before in
      let here = pass_lines show (suc turns) pass in
      let later = passes_lines show (suc turns) behind in
      let last = map (show 0) end in
      let long : length (one ++ two) ≡ length head + length (all_rows before) * suc turns
      = length-append one two ∙ rw (length-map head (show 0), passes_long show (suc turns) before) in
      ap (λ ls. get_or (one ++ ls ++ last) (length head + length (all_rows before) * suc turns + i) 0) (passes_both (suc turns) before (pass ∷ behind))
      ∙ ap (λ ls. get_or ls (length head + length (all_rows before) * suc turns + i) 0) (regrouped one two here later last)
      ∙ rw (← long) (get_or-append-add (one ++ two) (here ++ (later ++ last)) i 0)
      ∙ first_of_pass turns pass (later ++ last) i h
    where
      regrouped : (a b c d e : List ℕ) → a ++ (b ++ (c ++ d)) ++ e ≡ a ++ b ++ (c ++ (d ++ e))
      regrouped a b c d e = simp append_assoc

  pub at_end : (turns : ℕ) (l : Layout A) (i : ℕ)
      → at (lines show turns l) (length l.head + length (all_rows l.passes) * turns + i) ≡ at (map (show 0) l.end) i
  unfolding lines at
  at_end turns l i =
      let front = map (show 0) l.head ++ passes_lines show turns l.passes in
      let long : length front ≡ length l.head + length (all_rows l.passes) * turns
      = length-append (map (show 0) l.head) (passes_lines show turns l.passes)
      ∙ rw (length-map l.head (show 0), passes_long show turns l.passes) in
      rw (← long) (get_or-append-add front (map (show 0) l.end) i 0)
