use Rattle.merge_join.proofs.Holding.{fitting}
use Rattle.merge_join.proofs.moving.renumber_module.Goals as goal

pub renumber_funcs_in_place-requires : goal.renumber_funcs_in_place-requires
renumber_funcs_in_place-requires c = record { fits = (fitting c.args.map.now c.args.«module».now c.requires.fits).funcs }

pub rewrite_each-requires : goal.rewrite_each-requires
rewrite_each-requires c = record { fits = (fitting c.args.map.now c.args.«module».now c.requires.fits).globals }

pub rewrite_each-requires-2 : goal.rewrite_each-requires-2
rewrite_each-requires-2 c = record { fits = (fitting c.args.map.now c.args.«module».now c.requires.fits).elems }

pub rewrite_each-requires-3 : goal.rewrite_each-requires-3
rewrite_each-requires-3 c = record { fits = (fitting c.args.map.now c.args.«module».now c.requires.fits).datas }
