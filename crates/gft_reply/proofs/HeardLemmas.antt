-- A reply that was heard stands in the stream's lines.
use Rattle.std.proofs.Common.{◌≡◌, ◌⊎◌, ℕ, ◌+◌, ◌<◌, ◌≤◌, Bool, true, false, eqb, List, [], ◌∷◌, ◌++◌, length, length-append, map, Option, Some, None, append_assoc, refl, sym, ap, subst, ◌∙◌, inl, inr, arith}
use Rattle.std.specs.List.{AllByRecursion}
use Rattle.std.proofs.lemmas.Bool.{both_ways, cases_lt, eq-eqb, eqb-true, false≢true, le-ltb}
use Rattle.gft_text.specs.Words.{Told, Line, Overlong}
use Rattle.gft_reply.specs.declared.reply.Reply.{Reply}
use Rattle.gft_reply.specs.declared.TheConstants.{LINE_COUNT_LIMIT}
use Rattle.gft_reply.specs.Line.{Part, head_of, without_space}
use Rattle.gft_reply.specs.ReplyStream.{Heard, Replied, Refused, heard, nothing, part_behind, part_then}
use Rattle.gft_reply.specs.Grammar.{IsHead, IsInner, IsReply}
use Rattle.gft_reply.specs.HeardLines.{BeginsWith}
use Rattle.gft_reply.proofs.GrammarLemmas.{first-closes, first-goes, line-closes, line-goes, reply_of}

abbrev part : ℕ → List ℕ → Bool → Part
part code text ends = record { code = code; text = text; ends = ends }

ends_of : Option Part → Bool
ends_of None = false
ends_of (Some part) = part.ends

code_of : Option Part → ℕ
code_of None = 0
code_of (Some part) = part.code

-- a line ends a reply of this code, or is an inner line of it
ends_or_not : (code c : ℕ) (text : List ℕ) (ends : Bool) (same : Bool) → eqb c code ≡ same → ((closing : List ℕ) × (Some (part c text ends) ≡ Some (part code closing true))) ⊎ ((closing : List ℕ) → ¬ Some (part c text ends) ≡ Some (part code closing true))
unfolding ends_of code_of
ends_or_not code c text false same is = inr (λ closing e. false≢true (ap ends_of e))
ends_or_not code c text true true is = inl (text, ap (λ (n : ℕ). Some (part n text true)) (eqb-true c code is))
ends_or_not code c text true false is = inr (λ closing e. both_ways _ is (eq-eqb c code (ap code_of e)))

head_or_not : (code : ℕ) (h : Option Part) → ((closing : List ℕ) × (h ≡ Some (part code closing true))) ⊎ ((closing : List ℕ) → ¬ h ≡ Some (part code closing true))
head_or_not code None = inr (λ closing e. cc e)
head_or_not code (Some head) = ends_or_not code head.code head.text head.ends (eqb head.code code) refl

pub closes_or_inner : (code : ℕ) (line : List ℕ) → ((closing : List ℕ) × IsHead line code closing true) ⊎ IsInner code line
closes_or_inner code line = head_or_not code (head_of line)

-- the lines that follow a first one
record Later (code : ℕ) (texts : List (List ℕ)) (told : List Told) (reply : Reply) (later : List Heard) : Type 0 where
  inner : List (List ℕ)
  last : List ℕ
  closing : List ℕ
  rest : List Told
  told_is : told ≡ map Line (inner ++ last ∷ []) ++ rest
  goes_on : AllByRecursion (IsInner code) inner
  ending : IsHead last code closing true
  reply_is : reply ≡ reply_of code (texts ++ (map without_space inner ++ closing ∷ []))
  few : length texts + length inner + 1 < LINE_COUNT_LIMIT
  later_is : later ≡ heard rest nothing

too_many : (code : ℕ) (t : List ℕ) (ts : List (List ℕ)) (line : List ℕ) (next : Reply → List Heard) → LINE_COUNT_LIMIT ≤ length (t ∷ ts) + 1 → part_then (reply_of code (t ∷ ts)) (part_behind (t ∷ ts) code line) next ≡ Refused ∷ []
too_many code t ts line next many = rw (le-ltb (length (t ∷ ts) + 1) LINE_COUNT_LIMIT many) refl

later-only : (told : List Told) (code : ℕ) (t : List ℕ) (ts : List (List ℕ)) (reply : Reply) (later : List Heard) → heard told (reply_of code (t ∷ ts)) ≡ Replied reply ∷ later → Later code (t ∷ ts) told reply later
later-only [] code t ts reply later came = absurd (cc came)
later-only (Overlong ∷ told) code t ts reply later came = absurd (cc came)
later-only (Line line ∷ told) code t ts reply later came = elim (cases_lt (length (t ∷ ts) + 1) LINE_COUNT_LIMIT) [
  | inl short ↦ elim (closes_or_inner code line) [
    | inl found ↦
        let told_so = sym came ∙ line-closes code t ts line found.0 (heard told) found.1 short in
        record {
          inner = [];
          last = line;
          closing = found.0;
          rest = told;
          told_is = refl;
          goes_on = tt;
          ending = found.1;
          reply_is = cc told_so;
          few = omega arith;
          later_is = cc told_so;
        }
    | inr goes ↦
        let text : List ℕ = without_space line in
        let more = later-only told code t (ts ++ text ∷ []) reply later (sym (line-goes code t ts line (heard told) goes short) ∙ came) in
        record {
          inner = line ∷ more.inner;
          last = more.last;
          closing = more.closing;
          rest = more.rest;
          told_is = ap (λ (x : List Told). Line line ∷ x) more.told_is;
          goes_on = (goes, more.goes_on);
          ending = more.ending;
          reply_is = more.reply_is ∙ ap (λ (x : List (List ℕ)). reply_of code x) (append_assoc (t ∷ ts) (text ∷ []) (map without_space more.inner ++ more.closing ∷ []));
          few = omega (arith, more.few, length-append ts (text ∷ []));
          later_is = more.later_is;
        }
  ]
  | inr many ↦ absurd (cc (too_many code t ts line (heard told) many, came))
]

first-only : (line : List ℕ) (told : List Told) (reply : Reply) (later : List Heard) (h : Option Part) → head_of line ≡ h → heard (Line line ∷ told) nothing ≡ Replied reply ∷ later → BeginsWith (Line line ∷ told) reply later
first-only line told reply later None is came =
    absurd (cc (ap (λ (h : Option Part). part_then nothing h (heard told)) is, came))
first-only line told reply later (Some head) is came = by_mark head.ends head.code head.text is where
  by_mark : (ends : Bool) (code : ℕ) (text : List ℕ) → head_of line ≡ Some (part code text ends) → BeginsWith (Line line ∷ told) reply later
  by_mark true code text is =
      let told_so = sym came ∙ first-closes code line text (heard told) is in
      let reply_is : reply ≡ reply_of code (text ∷ []) = cc told_so in
      record {
        lines = line ∷ [];
        rest = told;
        told_is = refl;
        is_reply = rw reply_is (inl (record { line = line; text = text; lines_are = refl; head = is; texts = refl }));
        few = omega arith;
        later_is = cc told_so;
      }
  by_mark false code text is =
      let more = later-only told code text [] reply later (sym (first-goes code line text (heard told) is) ∙ came) in
      record {
        lines = line ∷ (more.inner ++ more.last ∷ []);
        rest = more.rest;
        told_is = ap (λ (x : List Told). Line line ∷ x) more.told_is;
        is_reply = subst (λ (r : Reply). IsReply (line ∷ (more.inner ++ more.last ∷ [])) r) (sym more.reply_is) (inr (record {
          first = line;
          inner = more.inner;
          last = more.last;
          opening = text;
          closing = more.closing;
          lines_are = refl;
          opens = is;
          goes_on = more.goes_on;
          closes = more.ending;
          texts = refl;
        }));
        few = omega (arith, more.few, length-append more.inner (more.last ∷ []));
        later_is = more.later_is;
      }

-- a reply that was heard is of lines that are one reply
pub heard-only : (told : List Told) (reply : Reply) (later : List Heard) → heard told nothing ≡ Replied reply ∷ later → BeginsWith told reply later
heard-only [] reply later came = absurd (cc came)
heard-only (Overlong ∷ told) reply later came = absurd (cc came)
heard-only (Line line ∷ told) reply later came = first-only line told reply later (head_of line) refl came
