-- What the code keeps while it looks at a run: a `Window`, which is a ring of the last 512 bytes and the counts of the byte values in it.
use Rattle.std.specs.Prelude.{◌≡◌, cond, List, ℕ, zero, suc, ◌+◌, ◌-◌, ◌%◌, ◌≤◌, ◌<◌, ltb, length, drop, set, replicate}
use Rattle.table.specs.Balanced.{at, count_of}
use Rattle.screening.specs.declared.Window.{Window}

-- before any byte
unfoldable pub empty_window : Window
empty_window = record { ring = replicate 512 0; counts = replicate 256 0 }

-- the counts without a byte that leaves, which one does from position 512 on
unfoldable pub without : (position byte : ℕ) → (counts : List ℕ) → List ℕ
without position byte counts = cond (ltb position 512) counts (set counts byte (at counts byte - 1))

-- the counts with a byte that comes
unfoldable pub with_one : (byte : ℕ) → (counts : List ℕ) → List ℕ
with_one byte counts = set counts byte (at counts byte + 1)

-- the window with the byte at a position of the run: it takes the place of the one that leaves
unfoldable pub fed_one : (position byte : ℕ) → Window → Window
fed_one position byte held =
    record {
      ring = set held.ring (position % 512) byte;
      counts = with_one byte (without position (at held.ring (position % 512)) held.counts);
    }

-- what it is after so many bytes of a run
unfoldable pub after : (run : List ℕ) → (count : ℕ) → Window
after run zero = empty_window
after run (suc i) = fed_one i (at run i) (after run i)

-- the last 512 of the bytes that have come, or all of them where fewer have
unfoldable pub latest : (come : List ℕ) → List ℕ
latest come = drop (length come - 512) come

-- a window holds the bytes that have come: byte i of them, if it is among the last 512, stands in the ring at i mod 512, and the counts are
-- those of the last 512, or of all so far
pub record Holds (come : List ℕ) (held : Window) : Type 0 where
  pub ring_long : length held.ring ≡ 512
  pub recorded : (i : ℕ) → i < length come → length come ≤ i + 512 → at held.ring (i % 512) ≡ at come i
  pub counts_long : length held.counts ≡ 256
  pub counted : (value : ℕ) → value < 256 → at held.counts value ≡ count_of value (latest come)
