use Rattle.std.proofs.Common.{rules, ◌≡◌, ◌<◌, length, Option, Some, ℕ, refl, sym, ap, ap₂, ◌∙◌, List, [], length-set}
use Rattle.std.specs.Prelude.{unwrap_or}
use Rattle.block_pool.specs.Blocks.{held, IsLive}
use Rattle.block_pool.specs.contracts.pool.Pool.{the_view}
use Rattle.block_pool.proofs.Kept.{inside, bytes_are, any_default, kept_written, written_as, seen}
use Rattle.block_pool.proofs.pool.Pool.bytes_mut.Goals as goal

pub index_mut-requires : goal.index_mut-requires
index_mut-requires c =
    let h : c.args.block.now.number < length c.self.inside.blocks.items = inside _ _ _ c.self.invariant.0 c.args.block.now.number (rw (← c.self.view_is) at c.requires) in search rules

pub invariant_of-self-lent : goal.invariant_of-self-lent
invariant_of-self-lent c w =
    let i = c.self.invariant in
    (kept_written _ _ _ i.0 c.args.block.now.number (rw (← c.self.view_is) at c.requires) w, (rw (length-set c.self.inside.blocks.items c.args.block.now.number w) i.1.0, i.1.1))

-- The block whose bytes are borrowed stays live, so the number of live blocks is unchanged.
pub returns : goal.returns
returns c =
    let live : IsLive (the_view c.self.inside) c.args.block.now.number = rw (← c.self.view_is) at c.requires in
    let h : c.args.block.now.number < length c.self.inside.blocks.items = inside _ _ _ c.self.invariant.0 c.args.block.now.number live in
    let lent : held (the_view c.self.inside) c.args.block.now.number ≡ Some c.as_mut_slice.result.now =
    bytes_are _ _ _ c.self.invariant.0 c.args.block.now.number live
    ∙ ap Some (any_default c.self.inside.blocks.items c.args.block.now.number [] c.index_mut.result.now h ∙ (sym c.index_mut.ensures.value ∙ sym c.as_mut_slice.ensures.value)) in (
      (
        refl,
        λ w. rw (← c.self.view_is) (ap₂ (seen c.self.inside.room (length c.self.inside.free.items))
            (written_as _ _ _ c.self.invariant.0 c.args.block.now.number live w)
            (length-set c.self.inside.blocks.items c.args.block.now.number w)),
      ),
      record {
        writes_back = tt;
        bytes = rw (← c.self.view_is) lent;
        length = ap (λ (o : Option (List ℕ)). length (unwrap_or o [])) (sym lent ∙ c.bytes.ensures.bytes) ∙ c.bytes.ensures.length;
      },
    )
