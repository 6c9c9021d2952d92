use Rattle.base_lists.proofs.Common.{◌≤◌, ◌*◌, ap, sym, subst, ◌∙◌, IsNone}
use Rattle.block_pool.specs.Pages.{Pages, written_count}
use Rattle.block_pool.proofs.Plain.{plain_held}
use Rattle.block_pool.proofs.Opened.{unmarked, held_most}
use Rattle.block_pool.proofs.paged.Paged.blocks_held.Goals as goal

pub returns-clause-unmarked : goal.returns-clause-unmarked
returns-clause-unmarked c none =
    let t = c.self.inside.table in
    let off = unmarked t (subst (λ (p : Pages). IsNone p.mark) (sym c.self.view_is) none) in
    c.used.ensures ∙ (plain_held t c.self.invariant (c.self.invariant.unmarked off) ∙ ap (λ (p : Pages). written_count p.now) c.self.view_is)

pub returns-clause-most : goal.returns-clause-most
returns-clause-most c = subst (λ (p : Pages). c.used.result ≤ 2 * p.most) c.self.view_is (rw c.used.ensures (held_most c.self.inside.table c.self.invariant))
