-- What is promised of the S-box holds.
use lib.Dec.{lit≤}
use Rattle.table.specs.Promises.{BalancedAccepted}
use Rattle.table.proofs.Promises.{balanced_accepted}
use Rattle.sbox.specs.Sbox.{sbox as table}
use Rattle.sbox.specs.Promises.{EntryRight, InverseRight, SboxBalanced, SboxAccepted}
use Rattle.sbox.proofs.Inverse as inverse
use Rattle.sbox.proofs.Sbox as sbox

pub entry_right : EntryRight
unfolding EntryRight
entry_right = sbox.sbox_rule

pub inverse_right : InverseRight
unfolding InverseRight
inverse_right = (inverse.inverse_zero, inverse.times_inverse)

pub sbox_balanced : SboxBalanced
unfolding SboxBalanced
sbox_balanced = sbox.sbox_balanced

pub sbox_accepted : SboxAccepted
unfolding SboxAccepted BalancedAccepted
sbox_accepted = (balanced_accepted 8 8 table (lit≤ tt) (lit≤ tt) (lit≤ tt) sbox.sbox_balanced).1
