-- One half of a word chosen by a bit, step by step as Algorithm 4 of Rivain, Dottax and Prouff has it: the halves, the registers and the shares.
use Rattle.std.specs.Prelude.{cond, List, [], ◌∷◌, ℕ, zero, suc, ◌-◌, ◌/◌, ◌%◌, ◌^◌, eqb, set}
use Rattle.bits.specs.Xor.{◌⊕◌}
use Rattle.table.specs.Balanced.{at}
use Rattle.halves.specs.declared.Selection.{Selection}

-- of a word of twice the width: the high half for the bit 0, the low one for 1
unfoldable pub half : (width bit word : ℕ) → ℕ
half width bit word = cond (eqb bit 0) (word / 2 ^ width) (word % 2 ^ width)

-- step 3: the place that the half for c0 goes to in each pair of registers; the other half goes to the other place
unfoldable pub c3 : Selection → ℕ
c3 s = (s.c1 ⊕ s.b) ⊕ s.c2

-- A, B and C are the pairs 0, 1 and 2. What goes to them: the half of z0, z1 or z2 that a bit chooses, masked
unfoldable pub masked : (pair : ℕ) → Selection → (bit : ℕ) → ℕ
masked zero s bit = half s.width bit s.z0 ⊕ s.t1
masked (suc zero) s bit = half s.width bit s.z1 ⊕ s.t2
masked (suc (suc _)) s bit = (half s.width bit s.z2 ⊕ s.t1) ⊕ s.t2

-- a pair after steps 4 to 6, which write one of its registers, and after steps 7 to 9, which write the other
unfoldable pub registers : (pair : ℕ) → Selection → List ℕ
registers pair s = set (set (0 ∷ 0 ∷ []) (c3 s) (masked pair s s.c0)) (1 - c3 s) (masked pair s (1 - s.c0))

-- step 10: the three shares of the half
unfoldable pub share : (pair : ℕ) → Selection → ℕ
share pair s = at (registers pair s) s.b
