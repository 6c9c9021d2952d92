use Rattle.std.proofs.Common.{◌≡◌, drop, take}
use Rattle.base_lists.specs.Options.{first_given}
use Rattle.split_plan.specs.NameTable.{AreMarks, fault_in, held_of}
use Rattle.split_plan.proofs.marking.marked.Given as goal

abbrev pub invariant-loop-word : goal.invariant-loop-word
invariant-loop-word l =
    let given = first_given (λ word. fault_in (held_of l.table word) word) in record {
      marks : AreMarks (held_of l.table) (take l.word-index l.words) l.count l.marks.items;
      none : given l.words ≡ given (drop l.word-index l.words);
    }
