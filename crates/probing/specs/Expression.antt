-- What a masked algorithm computes, as expressions over its secrets and masks, and their values. Each number has a class 0, 1, 2, ..,
-- and a setting gives each class its width in bits.
use Rattle.std.specs.Prelude.{cond, List, ℕ, ◌/◌, ◌%◌, ◌^◌, eqb, get_or}
use Rattle.bits.specs.Xor.{◌⊕◌}

infixl 70 ◌⊞◌
-- secrets, masks and tables are called by their places in a system; `differ` is 1 where its two parts differ and 0 where they are equal;
-- `half` is the high half of a word where the bit is 0, and else the low one, which has as many bits as the class
pub data Expression : Type 0 where
  secret mask : ℕ → Expression
  number : (class value : ℕ) → Expression
  ◌⊞◌ : Expression → Expression → Expression
  lookup : (table : ℕ) → Expression → Expression
  differ : Expression → Expression → Expression
  half : (class : ℕ) → (bit word : Expression) → Expression

-- a table's index is of the class `from`, its entries are of the class `to`, and the secret at the place `output` is one of its entries
pub record Table : Type 0 where
  pub from : ℕ
  pub to : ℕ
  pub output : ℕ

-- the classes of the masks, of the secrets and of a comparison's result, and the tables; the classes of words that have two halves, of the
-- halves, and of bits
pub record System : Type 0 where
  pub masks : List ℕ
  pub secrets : List ℕ
  pub tables : List Table
  pub flag : ℕ
  pub word : ℕ
  pub part : ℕ
  pub bit : ℕ

abbrev pub table : System → ℕ → Table
table system t = get_or system.tables t (record { from = 0; to = 0; output = 0 })

-- the width of each class, and each table's entry at an index
pub record Setting : Type 0 where
  pub width : ℕ → ℕ
  pub tables : ℕ → ℕ → ℕ

-- a public number is cut to the width of its class
unfoldable pub value : Setting → (secrets masks : ℕ → ℕ) → Expression → ℕ
value setting secrets masks (secret j) = secrets j
value setting secrets masks (mask i) = masks i
value setting secrets masks (number class a) = a % 2 ^ setting.width class
value setting secrets masks (e ⊞ f) = value setting secrets masks e ⊕ value setting secrets masks f
value setting secrets masks (lookup t e) = setting.tables t (value setting secrets masks e)
value setting secrets masks (differ e f) = cond (eqb (value setting secrets masks e) (value setting secrets masks f)) 0 1
value setting secrets masks (half class s w) =
    cond (eqb (value setting secrets masks s) 0) (value setting secrets masks w / 2 ^ setting.width class)
    (value setting secrets masks w % 2 ^ setting.width class)
