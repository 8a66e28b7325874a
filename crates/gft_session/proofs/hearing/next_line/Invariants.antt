use Rattle.std.proofs.Common.{◌≡◌, ◌<◌, List, [], length}
use Rattle.gft_text.specs.Words.{lines_to_come}
use Rattle.gft_outside.specs.Words.{ControlInput, Hears}
use Rattle.gft_session.specs.Hearing.{Brings, IsPatient, pauses}
use Rattle.gft_session.proofs.hearing.next_line.Given as goal

abbrev pub invariant-bytes : goal.invariant-bytes
invariant-bytes g l = record {
  inputs : List ControlInput;
  heard : Hears inputs (g.C.Control.state l.initial.control) (g.C.Control.state l.control);
  brings : Brings l.initial.lines inputs [] l.lines;
  settled : lines_to_come l.lines [] ≡ [];
  quiet : pauses inputs ≡ l.quiets;
  fewer : l.quiets < l.idle;
  patient : IsPatient l.idle inputs;
  faults : (g.C.Control.state l.control).faults ≡ (g.C.Control.state l.initial.control).faults;
  one : length l.buf ≡ 1;
}
