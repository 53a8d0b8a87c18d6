-- `frame_rounds::add_keys` meets its contract.
use Rattle.frame_lookups.specs.Shares.{share, with_each_share}
use Rattle.frame_rounds.proofs.Shared.{three_made}
use Rattle.frame_rounds.proofs.add_keys.Goals as goal

pub returns : goal.returns
unfolding with_each_share share
returns c = search three_made
