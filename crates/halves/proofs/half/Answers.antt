-- `halves::half` meets its contract.
use Rattle.halves.proofs.Halving.{power_least, doubled_fits, product_fits, shift_fits, shift_below, low_fits, half_shifted}
use Rattle.halves.proofs.half.Goals as goal

pub overflow_sub-low : goal.overflow_sub-low
overflow_sub-low c = search power_least

pub overflow_mul-result : goal.overflow_mul-result
overflow_mul-result c = search doubled_fits

pub overflow_mul-result-2 : goal.overflow_mul-result-2
overflow_mul-result-2 c = search product_fits

pub overflow_add-result : goal.overflow_add-result
overflow_add-result c = search shift_fits

pub overflow_shr-result : goal.overflow_shr-result
overflow_shr-result c = search shift_below

pub overflow_cast-result : goal.overflow_cast-result
overflow_cast-result c = search low_fits

pub returns : goal.returns
returns c = search half_shifted
