use Rattle.eval_machine.proofs.SimpleInstructions.{plain}
use Rattle.eval_machine.proofs.PlainInstructions.{begins_as, plain_begins}
use Rattle.eval_machine.proofs.registers.Registers.simple.Goals as goal

pub returns-in_ok-global_get-in-GlobalGet-clause-begins : goal.returns-in_ok-global_get-in-GlobalGet-clause-begins
returns-in_ok-global_get-in-GlobalGet-clause-begins c = λ e.
    begins_as c.args.input.now c.args.instr.now _ c.args.self.now _ c.args.self.now.kept c.global_get.new.operands c.in-GlobalGet.is c.in_ok-global_get-in-GlobalGet.ensures

pub returns-in_ok-ref_func-in-RefFunc-clause-begins : goal.returns-in_ok-ref_func-in-RefFunc-clause-begins
returns-in_ok-ref_func-in-RefFunc-clause-begins c = λ e.
    begins_as c.args.input.now c.args.instr.now _ c.args.self.now _ c.args.self.now.kept c.ref_func.new.operands c.in-RefFunc.is c.in_ok-ref_func-in-RefFunc.ensures

pub returns-in_ok-load-in-Load-clause-begins : goal.returns-in_ok-load-in-Load-clause-begins
returns-in_ok-load-in-Load-clause-begins c = λ e.
    begins_as c.args.input.now c.args.instr.now _ c.args.self.now _ c.args.self.now.kept c.load.new.operands c.in-Load.is c.in_ok-load-in-Load.ensures

pub returns-in_ok-memory_size-in-MemorySize-clause-begins : goal.returns-in_ok-memory_size-in-MemorySize-clause-begins
returns-in_ok-memory_size-in-MemorySize-clause-begins c = λ e.
    begins_as c.args.input.now c.args.instr.now _ c.args.self.now _ c.args.self.now.kept c.memory_size.new.operands c.in-MemorySize.is c.in_ok-memory_size-in-MemorySize.ensures

pub returns-in_ok-table_get-in-TableGet-clause-begins : goal.returns-in_ok-table_get-in-TableGet-clause-begins
returns-in_ok-table_get-in-TableGet-clause-begins c = λ e.
    begins_as c.args.input.now c.args.instr.now _ c.args.self.now _ c.args.self.now.kept c.table_get.new.operands c.in-TableGet.is c.in_ok-table_get-in-TableGet.ensures

pub returns-in_ok-table_size-in-TableSize-clause-begins : goal.returns-in_ok-table_size-in-TableSize-clause-begins
returns-in_ok-table_size-in-TableSize-clause-begins c = λ e.
    begins_as c.args.input.now c.args.instr.now _ c.args.self.now _ c.args.self.now.kept c.table_size.new.operands c.in-TableSize.is c.in_ok-table_size-in-TableSize.ensures

pub returns-in_ok-global_set-in-GlobalSet-clause-begins : goal.returns-in_ok-global_set-in-GlobalSet-clause-begins
returns-in_ok-global_set-in-GlobalSet-clause-begins c = λ e.
    begins_as c.args.input.now c.args.instr.now _ c.args.self.now _ c.global_set.new.self c.global_set.new.operands c.in-GlobalSet.is c.in_ok-global_set-in-GlobalSet.ensures.begins

pub returns-in-Store-clause-begins : goal.returns-in-Store-clause-begins
returns-in-Store-clause-begins c = λ e.
    begins_as c.args.input.now c.args.instr.now _ c.args.self.now _ c.store.new.self c.store.new.operands c.in-Store.is c.store.ensures.begins

pub returns-in-MemoryInit-clause-begins : goal.returns-in-MemoryInit-clause-begins
returns-in-MemoryInit-clause-begins c = λ e.
    begins_as c.args.input.now c.args.instr.now _ c.args.self.now _ c.memory_init.new.self c.memory_init.new.operands c.in-MemoryInit.is c.memory_init.ensures.begins

pub returns-in-MemoryCopy-clause-begins : goal.returns-in-MemoryCopy-clause-begins
returns-in-MemoryCopy-clause-begins c = λ e.
    begins_as c.args.input.now c.args.instr.now _ c.args.self.now _ c.memory_copy.new.self c.memory_copy.new.operands c.in-MemoryCopy.is c.memory_copy.ensures.begins

pub returns-in-MemoryFill-clause-begins : goal.returns-in-MemoryFill-clause-begins
returns-in-MemoryFill-clause-begins c = λ e.
    begins_as c.args.input.now c.args.instr.now _ c.args.self.now _ c.memory_fill.new.self c.memory_fill.new.operands c.in-MemoryFill.is c.memory_fill.ensures.begins

pub returns-in_ok-data_drop-in-DataDrop-clause-begins : goal.returns-in_ok-data_drop-in-DataDrop-clause-begins
returns-in_ok-data_drop-in-DataDrop-clause-begins c = λ e.
    begins_as c.args.input.now c.args.instr.now _ c.args.self.now _ c.data_drop.new.self c.args.self.now.operands c.in-DataDrop.is (c.in_ok-data_drop-in-DataDrop.ensures.begins c.args.self.now.operands)

pub returns-in_ok-plain-in_default-clause-begins : goal.returns-in_ok-plain-in_default-clause-begins
returns-in_ok-plain-in_default-clause-begins c = λ e.
    let is = plain c.args.instr.now e (record {
      no_globalget = c.in_default.not-GlobalGet;
      no_globalset = c.in_default.not-GlobalSet;
      no_reffunc = c.in_default.not-RefFunc;
      no_load = c.in_default.not-Load;
      no_store = c.in_default.not-Store;
      no_memorysize = c.in_default.not-MemorySize;
      no_memorygrow = c.in_default.not-MemoryGrow;
      no_memoryinit = c.in_default.not-MemoryInit;
      no_datadrop = c.in_default.not-DataDrop;
      no_memorycopy = c.in_default.not-MemoryCopy;
      no_memoryfill = c.in_default.not-MemoryFill;
      no_tableget = c.in_default.not-TableGet;
      no_tablesize = c.in_default.not-TableSize;
      no_tableset = c.in_default.not-TableSet;
      no_tableinit = c.in_default.not-TableInit;
      no_elemdrop = c.in_default.not-ElemDrop;
      no_tablecopy = c.in_default.not-TableCopy;
      no_tablegrow = c.in_default.not-TableGrow;
      no_tablefill = c.in_default.not-TableFill;
    }) in
    plain_begins c.args.input.now c.args.instr.now c.args.self.now c.in_ok-plain-in_default.field-0 c.plain.new.operands c.plain.new.locals is (c.in_ok-plain-in_default.ensures is)
