use Rattle.base_lists.proofs.Common.{◌≡◌, ◌∙◌, ap, is_some, Option, Some, Bool, true, false, cond, refl, bytes_eq, hash_map_updates_str}
use Rattle.std.specs.HashMap.{get_by}
use Rattle.merge_names.proofs.keeping.comes_again.Goals as goal

some_of : (b : Bool) (o : Option (Unit {0})) → is_some (cond b (Some tt) o) ≡ cond b true (is_some o)
some_of true o = refl
some_of false o = refl

pub returns-clause-noted : goal.returns-clause-noted
returns-clause-noted c = λ q.
    ap is_some (hash_map_updates_str c.args.name.now c.args.came.now c.insert.new.self _ c.in_ok-insert.ensures.updates q)
    ∙ some_of (bytes_eq c.args.name.now q) (get_by (λ k. bytes_eq q k.now) c.args.came.now)
