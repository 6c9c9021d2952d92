use Rattle.base_lists.proofs.Common.{Some, ap, sym, subst, ◌∙◌, IsNone}
use Rattle.block_pool.specs.Pages.{Pages}
use Rattle.block_pool.proofs.Opened.{set_mark}
use Rattle.block_pool.proofs.paged.Paged.mark.Goals as goal

pub returns : goal.returns
returns c =
    set_mark c.self.inside.table c.self.invariant (subst (λ (p : Pages). IsNone p.mark) (sym c.self.view_is) c.requires)
    ∙ ap (λ (p : Pages). let q : Pages = record p { mark = Some p.now } in q) c.self.view_is
