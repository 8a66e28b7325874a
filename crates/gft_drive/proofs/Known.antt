-- Known bytes over several reads or writes.
use Rattle.std.proofs.Common.{◌≡◌, ℕ, ◌+◌, ◌-◌, ◌≤◌, List, length, take, drop, Option, None, Some, Result, Ok, Err, sym, ap, ◌∙◌, subst, arith, length-drop}
use Rattle.std.specs.Io.KnownBytes.{Appends, Consumes, Keeps, ReadConsumes, WriteAppends}
use Rattle.std.specs.Io.{WritesAtMost}
use Rattle.std.proofs.KnownBytes.{Appends-kept, Appends-trans, Keeps-trans}
use Rattle.std.proofs.Math.Seq.{take-add}
use Rattle.std.proofs.lemmas.List.{take-append-drop, take_rest}
use Rattle.gft_drive.specs.Sink.{AppendsPart}

kept-consumes : (a b c : Option (List ℕ)) (bs : List ℕ) → Keeps a b → Consumes b c bs → Consumes a c bs
kept-consumes None b c bs p q = tt
kept-consumes (Some x) None c bs p q = absurd p
kept-consumes (Some x) (Some y) None bs p q = absurd q
kept-consumes (Some x) (Some y) (Some z) bs p q = sym p ∙ q

-- a read after some that took nothing
pub kept-reads : {E : Type 0} (a b c : Option (List ℕ)) (result : Result ℕ E) (buf : List ℕ) → Keeps a b → ReadConsumes b c result buf → ReadConsumes a c result buf
kept-reads a b c (Ok n) buf p q = (kept-consumes a b c (take n buf) p q.0, q.1)
kept-reads a b c (Err e) buf p q = Keeps-trans a b c p q

appends-more : (a b c : Option (List ℕ)) (bytes : List ℕ) (done more : ℕ) → Appends a b (take done bytes) → Appends b c (take more (drop done bytes)) → Appends a c (take (done + more) bytes)
appends-more a b c bytes done more p q = subst (Appends a c) (sym (take-add done more bytes)) (Appends-trans a b c _ _ p q)

-- the first bytes are a part
pub appends-part : (a b : Option (List ℕ)) (bytes : List ℕ) (done : ℕ) → Appends a b (take done bytes) → AppendsPart a b bytes
appends-part a b bytes done p = (take done bytes, (drop done bytes, sym (take-append-drop done bytes)), p)

-- a write takes the next bytes of those that are left
pub write-took : {E : Type 0} (a b c : Option (List ℕ)) (bytes : List ℕ) (done more : ℕ) (result : Result ℕ E) → result ≡ Ok more → done ≤ length bytes
    → Appends a b (take done bytes) → WritesAtMost result (take (length bytes - done) (drop done bytes)) → WriteAppends b c result (take (length bytes - done) (drop done bytes))
    → (done + more ≤ length bytes) × Appends a c (take (done + more) bytes)
write-took {E} a b c bytes done more result is inside p bound q =
    let rest : List ℕ = take (length bytes - done) (drop done bytes) in
    let within : more ≤ length rest = subst (λ (r : Result ℕ E). WritesAtMost r rest) is bound in
    let took : Appends b c (take more rest) = subst (λ (r : Result ℕ E). WriteAppends b c r rest) is q in
    let all : rest ≡ drop done bytes = take_rest bytes done in
    (omega (arith, length-drop done bytes, ap length all), appends-more a b c bytes done more p (subst (λ (l : List ℕ). Appends b c (take more l)) all took))

-- a write that failed took nothing
pub write-failed : {E : Type 0} (a b c : Option (List ℕ)) (bytes rest : List ℕ) (result : Result ℕ E) (error : E) → result ≡ Err error
    → Appends a b bytes → WriteAppends b c result rest → Appends a c bytes
write-failed {E} a b c bytes rest result error is p q =
    Appends-kept a b c bytes p (subst (λ (r : Result ℕ E). WriteAppends b c r rest) is q)
