-- Lanes that are parted from their places, and given back.
use Rattle.std.proofs.Common.{◌≡◌, ◌++◌, List, [], ◌∷◌, length, refl, sym, ap, ◌∙◌, arith, get_or}
use Rattle.std.proofs.lemmas.List.{length-map, nil_from_length}
use Rattle.gft_text.specs.declared.host_port.HostPort.{HostPort}
use Rattle.gft_outside.specs.Words.{LaneState, LinkState, TakesBack}
use Rattle.gft_session.specs.Listeners.{ListensOn, Returns}
use Rattle.gft_session.specs.Settings.{World}

-- a lane more is given back
pub returns_more : {L X : Type 0} (lane : L → LaneState) (a b c : LinkState L X) (done : List L) (next : L) → Returns lane a b done → TakesBack b c next (lane next).faults → Returns lane a c (done ++ next ∷ [])
returns_more lane a b c [] next same takes = (c, rw same at takes, refl)
returns_more lane a b c (first ∷ others) next returns takes = (returns.0, returns.1, returns_more lane returns.0 b c others next returns.2 takes)

-- one stripe has one place
pub one_place : {L X : Type 0} (lane : L → LaneState) (old new : World L X) (places : List HostPort) → ListensOn lane 1 old places new → length places ≡ 1
one_place lane old new places listens = ap length listens.shown ∙ length-map listens.listening _ ∙ listens.count

pub single : {A : Type 0} (xs : List A) (x : A) → length xs ≡ 1 → x ≡ get_or xs 0 x → xs ≡ x ∷ []
single [] x one is = absurd (omega (arith, one))
single (y ∷ ys) x one is = ap (λ rest. y ∷ rest) (nil_from_length ys (omega (arith, one))) ∙ ap (λ z. z ∷ []) (sym is)
