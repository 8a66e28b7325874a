use Rattle.std.proofs.Common.{inl}
use Rattle.gft_library.specs.Finding.{asking}
use Rattle.gft_library.proofs.StepLemmas.{not_opened}
use Rattle.gft_library.proofs.names.Names.bring.Goals as goal

pub returns-in-Err-clause-brings : goal.returns-in-Err-clause-brings
returns-in-Err-clause-brings g c = inl c.in-Err.ensures.admits

pub keep-requires-clause-own : goal.keep-requires-clause-own
keep-requires-clause-own g c κs within = c.in-Err-open.ensures.own c.args.name.now c.in-Ok.ensures.own

pub returns-in-Err-open-clause-brings : goal.returns-in-Err-open-clause-brings
returns-in-Err-open-clause-brings g c =
    not_opened (asking g.S.D.Drive.state g.S.Shelf.state c.args.self.now c.args.name.now) c.args.absent c.admit.new.self c.keep.new.self c.in-Ok.holding c.in-Err-open.holding
    c.in-Err-open.why c.in-Ok.ensures.admits.takes c.in-Ok.ensures.admits.stands c.in-Err-open.ensures.opened c.keep.ensures.puts c.keep.ensures.shelf
