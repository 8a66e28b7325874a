-- What a feed makes of the lines that were taken.
use Rattle.std.proofs.Common.{◌≡◌, ℕ, ◌+◌, ◌-◌, ◌≤◌, Bool, true, false, List, [], ◌∷◌, ◌++◌, length, length-append, get_or, get_or-take, take, Some, None, append_assoc, append-nil, refl, sym, ap, ◌∙◌, inl, inr, arith}
use Rattle.std.proofs.lemmas.Bool.{both_ways, cases_lt, eq-eqb}
use Rattle.std.proofs.Math.Seq.{get_or-append_seam, take-append-add, take-append_seam, take-length}
use Rattle.gft_base.specs.Words.{Lacks, line_feed}
use Rattle.gft_text.specs.Words.{Told, told}
use Rattle.gft_text.proofs.Lemmas.{told-none}
use Rattle.gft_reply.specs.declared.reply.Reply.{Reply}
use Rattle.gft_reply.specs.ReplyStream.{heard, nothing}
use Rattle.gft_reply.specs.Standing.{Standing}
use Rattle.gft_reply.specs.Replies.{CarriesReply}
use Rattle.gft_reply.specs.Taking.{StopsAt, StopsEnded}

-- where a reader stands
abbrev pub standing : Reply → List ℕ → Bool → Standing
standing begun bytes failed = record { code = begun.code; lines = begun.lines; bytes = bytes; failed = failed }

pub is_nothing : (reply : Reply) → reply.code ≡ 0 → reply.lines ≡ [] → reply ≡ nothing
is_nothing reply code lines =
    let coded : reply ≡ record { code = 0; lines = reply.lines } = ap (λ (n : ℕ). record { code = n; lines = reply.lines }) code in
    coded ∙ ap (λ (x : List (List ℕ)). record { code = 0; lines = x }) lines

-- the bytes behind the whole lines stay
pub open-carries : (begun new : Reply) (held piece kept : List ℕ) (failed : Bool) → failed ≡ false → StopsAt begun (held ++ piece) kept new → CarriesReply (standing begun held failed) piece (record { used = length piece; reply = None }) (standing new kept failed)
open-carries begun new held piece kept true going stop = absurd (cc going)
open-carries begun new held piece kept false going stop = record {
  used = omega arith;
  all = λ later.
      let spelt : held ++ (take (length piece) piece ++ later) ≡ stop.done ++ (kept ++ later) =
      ap (λ (x : List ℕ). held ++ (x ++ later)) (take-length piece) ∙ sym (append_assoc held piece later) ∙ ap (λ (x : List ℕ). x ++ later) stop.bytes_are ∙ append_assoc stop.done kept later in
      ap (λ (x : List ℕ). heard (told x) begun) spelt ∙ stop.carried (kept ++ later);
  settled =
      ap (λ (x : List ℕ). heard (told x) new) (append-nil kept) ∙ ap (λ (t : List Told). heard t new) (told-none kept stop.single stop.short);
}

-- a line's end stands in the piece, since none was held
pub ended-within : (held piece front rest : List ℕ) → Lacks line_feed held → held ++ piece ≡ front ++ line_feed ∷ rest → length rest ≤ length piece
ended-within held piece front rest lacks same =
    let parts = sym (length-append held piece) ∙ ap length same ∙ length-append front (line_feed ∷ rest) in
    elim (cases_lt (length front) (length held)) [
      | inl inside ↦
          let here : get_or held (length front) 0 ≡ line_feed = ap (λ (x : List ℕ). get_or x (length front) 0) (sym (take-append_seam held piece)) ∙ get_or-take (length held) (held ++ piece) (length front) 0 inside ∙ ap (λ (x : List ℕ). get_or x (length front) 0) same ∙ get_or-append_seam front line_feed rest 0 in
          absurd (both_ways _ (lacks (length front) 0 inside) (eq-eqb _ _ here))
      | inr outside ↦ omega (arith, parts, outside)
    ]

-- the bytes up to the end of the reply
pub ended-taken : (held piece front rest : List ℕ) → held ++ piece ≡ front ++ line_feed ∷ rest → length rest ≤ length piece → held ++ take (length piece - length rest) piece ≡ front ++ line_feed ∷ []
ended-taken held piece front rest same within =
    let line : List ℕ = front ++ line_feed ∷ [] in
    let whole : front ++ line_feed ∷ rest ≡ line ++ rest = simp append_assoc refl in
    let parts = sym (length-append held piece) ∙ ap length same ∙ length-append front (line_feed ∷ rest) in
    let line_len = length-append front (line_feed ∷ []) in
    let place : length held + (length piece - length rest) ≡ length line = omega (arith, parts, line_len) in
    sym (take-append-add held piece (length piece - length rest)) ∙ ap (λ (n : ℕ). take n (held ++ piece)) place ∙ ap (λ (x : List ℕ). take (length line) x) (same ∙ whole) ∙ take-append_seam line rest

-- the reply is told, and the next one begins behind it
pub ended-carries : (begun new reply next : Reply) (held piece kept : List ℕ) (left : ℕ) (failed : Bool) → failed ≡ false → Lacks line_feed held → StopsEnded begun (held ++ piece) left new → reply ≡ new → next ≡ nothing → kept ≡ [] → CarriesReply (standing begun held failed) piece (record { used = length piece - left; reply = Some reply }) (standing next kept failed)
ended-carries begun new reply next held piece kept left true going lacks stop reply_is next_is kept_is = absurd (cc going)
ended-carries begun new reply next held piece kept left false going lacks stop reply_is next_is kept_is =
    let same = stop.bytes_are in
    let within = ended-within held piece stop.front stop.rest lacks same in
    let taken = ended-taken held piece stop.front stop.rest same within in
    rw (reply_is, next_is, kept_is, stop.left_is) (record {
      used = omega arith;
      all = λ later.
          let spelt : held ++ (take (length piece - length stop.rest) piece ++ later) ≡ stop.front ++ line_feed ∷ later =
          sym (append_assoc held (take (length piece - length stop.rest) piece) later) ∙ ap (λ (x : List ℕ). x ++ later) taken ∙ append_assoc stop.front (line_feed ∷ []) later in
          ap (λ (x : List ℕ). heard (told x) begun) spelt ∙ stop.carried later;
      settled = ap (λ (t : List Told). heard t nothing) (told-none [] (λ k d lt. absurd (omega (arith, lt))) (omega arith));
    })
