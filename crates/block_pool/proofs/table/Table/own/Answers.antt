use Rattle.std.proofs.Common.{refl}
use Rattle.block_pool.proofs.Claimed.{claimed_already, read_slot}
use Rattle.block_pool.proofs.table.Table.own.Goals as goal

pub returns-else-self-clause-claims : goal.returns-else-self-clause-claims
returns-else-self-clause-claims c = claimed_already c.args.self.now c.args.number _ (read_slot _ _ _ _ c.requires.inside c.index.ensures c.in-Kept.is) refl

pub returns-in-New-clause-claims : goal.returns-in-New-clause-claims
returns-in-New-clause-claims c = claimed_already c.args.self.now c.args.number _ (read_slot _ _ _ _ c.requires.inside c.index.ensures c.in-New.is) refl

pub returns-in-Changed-clause-claims : goal.returns-in-Changed-clause-claims
returns-in-Changed-clause-claims c = claimed_already c.args.self.now c.args.number _ (read_slot _ _ _ _ c.requires.inside c.index.ensures c.in-Changed.is) refl
