-- What is promised of the definitions holds.
use mathlib.Core.Path.{refl}
use Rattle.bits.specs.Xor.{◌⊕◌}
use Rattle.table.specs.Balanced.{at}
use Rattle.table.specs.Tabulate.{tabulate}
use Rattle.sbox.specs.Field.{xtime, times_bits, times, square, inverse}
use Rattle.sbox.specs.Sbox.{bit, constant, affine_bit, from_bits, affine, sbox}
use Rattle.aes.specs.State.{four, column, byte, state_of, word_from, state_from, add_words}
use Rattle.aes.specs.Steps.{sub_bytes, shift_rows, mixed_byte, mix_column, mix_columns, add_round_key}
use Rattle.aes.specs.Expansion.{rot_word, sub_word, x_power, rcon, next_words, next_key, round_key}
use Rattle.aes.specs.Cipher.{state_after, cipher}
use Rattle.aes.specs.Promises.{bytes, block, example_key, words_up_to, Appendices, ExpansionRight}
use Rattle.aes.proofs.Expansion as expansion

pub appendices : Appendices
unfolding Appendices words_up_to example_key block bytes cipher state_after round_key next_key next_words rcon x_power sub_word rot_word
    sub_bytes shift_rows mixed_byte mix_column mix_columns add_round_key add_words state_from word_from state_of byte column four at sbox
    tabulate affine from_bits affine_bit bit constant inverse square times times_bits xtime ◌⊕◌
appendices = (refl, refl, refl)

pub expansion_right : ExpansionRight
expansion_right = expansion.expansion_right
