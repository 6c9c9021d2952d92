use Rattle.std.proofs.Common.{◌≡◌, ◌∙◌, ◌+◌, ◌-◌, ◌≤◌, ◌<◌, arith, rules, [], ◌∷◌, ◌++◌, length, get_or, IfSome, Some, refl, subst}
use Rattle.tool_io.specs.FilesAndSinks.{first_bytes}
use Rattle.tools_cli.proofs.Gathering.{one_file_more, one_turn_more, too_long_told, this_turn, contains_name, same_read, one_name_more, one_total_more}
use Rattle.wasm_bytes.specs.Reading.{IsBytes}
use Rattle.tools_cli.proofs.ReadBytes.{one_more_read}
use Rattle.tools_cli.proofs.Gathering.{no_word}
use Rattle.tools_cli_decide.specs.Command.{input_entries}
use Rattle.tools_cli_decide.specs.declared.input.Input.{Input}
use Rattle.tools_cli.proofs.gather.gather.Goals as goal

pub returns-in-Err-Failed-clause-stops : goal.returns-in-Err-Failed-clause-stops
unfolding no_word
returns-in-Err-Failed-clause-stops g c =
    let i = c.loop-name.name-index in
    let name = (get_or c.args.names.now i no_word).now in (
      contains_name c.args.names.now i no_word c.loop-name-test.true,
      (let was = c.loop-name.invariant.reads name in let rose = c.read.ensures.cause (search rules) in omega (arith, was, rose)),
      this_turn (g.F.Files.contents c.args.files.now) c.args.names.now i no_word c.args.most c.loop-name.left c.loop-name-test.true c.loop-name.invariant.turns,
    )

pub loop-name-preserved : goal.loop-name-preserved
unfolding no_word
loop-name-preserved g c =
    let i = c.loop-name.name-index in
    let held = g.F.Files.contents c.args.files.now in
    let got : IfSome held (λ held. first_bytes held (get_or c.args.names.now i no_word).now (c.loop-name.left + 1) ≡ Some c.in-Ok.bytes.items) = rw c.loop-name.invariant.stays at c.in-Ok.ensures.bytes in
    let count : c.len-left.result ≡ length c.in-Ok.bytes.items = search rules in
    let fits : length c.in-Ok.bytes.items ≤ c.loop-name.left = search rules in
    let input : Input = record { name = get_or c.args.names.now i no_word; bytes = c.in-Ok.bytes } in
    let pushed : c.push.new.self.items ≡ c.loop-name.inputs.items ++ input ∷ [] = search rules in
    record {
      fits = omega arith;
      stays = c.read.ensures.stays ∙ c.loop-name.invariant.stays;
      reads = λ name. let a = c.loop-name.invariant.reads name in let b = c.read.ensures.reads name in omega arith;
      writes = λ name. let a = c.loop-name.invariant.writes name in let b = c.read.ensures.writes name in omega arith;
      read = rw (count, pushed) (same_read held c.args.names.now (i + 1) c.args.most (c.loop-name.left - length c.in-Ok.bytes.items) c.loop-name.inputs.items input
          (one_file_more held c.args.names.now i no_word c.args.most c.loop-name.left (input_entries c.loop-name.inputs.items) c.in-Ok.bytes.items c.loop-name-test.true c.loop-name.invariant.read got fits));
      total = rw (count, pushed) (one_total_more c.loop-name.inputs.items input c.loop-name.left c.args.most c.loop-name.invariant.total fits);
      bytes = rw pushed (one_more_read c.loop-name.inputs.items input c.loop-name.invariant.bytes (subst IsBytes c.as_slice.ensures.value c.are_bytes.ensures));
      names = rw pushed (one_name_more c.args.names.now i no_word c.loop-name.inputs.items input c.loop-name-test.true refl c.loop-name.invariant.names);
      turns = rw count (one_turn_more held c.args.names.now i no_word c.args.most c.loop-name.left c.in-Ok.bytes.items c.loop-name-test.true c.loop-name.invariant.turns got fits);
    }

pub returns-then-len-left-clause-stops : goal.returns-then-len-left-clause-stops
unfolding no_word
returns-then-len-left-clause-stops g c =
    let held = g.F.Files.contents c.args.files.now in
    let got : IfSome held (λ held. first_bytes held (get_or c.args.names.now c.loop-name.name-index no_word).now (c.loop-name.left + 1) ≡ Some c.in-Ok.bytes.items) = rw c.loop-name.invariant.stays at c.in-Ok.ensures.bytes in
    let long : c.loop-name.left < length c.in-Ok.bytes.items = search rules in
    too_long_told held c.args.names.now c.loop-name.name-index no_word c.args.most c.loop-name.left (input_entries c.loop-name.inputs.items) c.in-Ok.bytes.items _ c.loop-name-test.true c.loop-name.invariant.read got long refl
