use Rattle.gft_outside.proofs.ShelfLemmas.{finds_told, makes_told, removes_told}
use Rattle.gft_outside.proofs.memory_shelf.MemoryShelfShelf.TheImpl.Goals as goal

pub find-tells : goal.find-tells
find-tells x c =
    let told = finds_told c.args.self.now c.new.self.now c.args.name.now c.result c.ensures in
    record { found = told.0; refused = told.1 }

pub make-tells : goal.make-tells
make-tells x c =
    let told = makes_told c.args.self.now c.new.self.now c.args.name.now c.result c.ensures in
    record { made = told.0; refused = told.1 }

pub remove-tells : goal.remove-tells
remove-tells x c = removes_told c.args.self.now c.new.self.now c.args.name.now c.result c.ensures
