-- What a teller puts, line by line.
use Rattle.std.proofs.Common.{◌≡◌, ℕ, ◌+◌, List, [], ◌∷◌, ◌++◌, take, Some, None, refl, sym, ap, ◌∙◌, subst, arith}
use Rattle.std.specs.Prelude.{Option}
use Rattle.std.proofs.lemmas.List.{append_assoc, append-nil, length-append, take_all}
use Rattle.std.specs.Io.KnownBytes.{Appends}
use Rattle.std.proofs.KnownBytes.{Appends-nil, Appends-trans}
use Rattle.gft_base.specs.Words.{Rose}
use Rattle.gft_range.specs.declared.Range.{Range}
use Rattle.gft_range.specs.declared.TheConstants.{MAX_ITEMS}
use Rattle.gft_reply.specs.declared.Reply.{Reply}
use Rattle.gft_reply.specs.Words.{reply_text}
use Rattle.gft_mark.specs.declared.TheConstants.{RANGE_CODE}
use Rattle.gft_mark.specs.Words.{range_marker_text}
use Rattle.gft_herald.specs.Words.{IsNamed}
use Rattle.gft_drive.specs.Words.{AppendsPart, IsPartOf}
use Rattle.gft_book.specs.Words.{up_to_last}
use Rattle.gft_receive.specs.declared.telling.TellError.{TellError}
use Rattle.gft_receive.specs.declared.telling.TellError.TheVariants as error
use Rattle.gft_receive.specs.declared.telling.Told.{Told}
use Rattle.gft_receive.specs.Telling.{PutsAll, PutsPart, line_of, lines_of}
use Rattle.gft_receive.specs.Teller.{HasPut, LeavesLine, PutsSo}

pub lines_of-append : (a b : List (List Range)) → lines_of (a ++ b) ≡ lines_of a ++ lines_of b
lines_of-append [] b = refl
lines_of-append (ranges ∷ a) b = ap (λ (l : List ℕ). line_of ranges ++ l) (lines_of-append a b) ∙ sym (append_assoc (line_of ranges) (lines_of a) (lines_of b))

-- the reply of a mark's ranges is its line
pub marker_line : (reply : Reply) (ranges : List Range) → IsNamed ranges → reply.code ≡ RANGE_CODE → reply.lines ≡ range_marker_text (take MAX_ITEMS ranges) ∷ [] → reply_text reply ≡ line_of ranges
marker_line reply ranges named code lines =
    let whole : reply.lines ≡ range_marker_text ranges ∷ [] = lines ∙ ap (λ (l : List Range). range_marker_text l ∷ []) (take_all MAX_ITEMS ranges named.1) in
    ap reply_text (λ k. record { code = code k; lines = whole k })

-- a mark behind those that were all told
next_mark : (made told left : List (List Range)) (ranges : List Range) → made ≡ told ++ left → left ≡ [] → made ++ ranges ∷ [] ≡ told ++ ranges ∷ []
next_mark made told left ranges all none = ap (λ (l : List (List Range)). l ++ ranges ∷ []) (all ∙ ap (λ (l : List (List Range)). told ++ l) none ∙ append-nil told)

module _ {W : Type 0} (written : W → Option (List ℕ)) (is_open : W → Type 0) (faults : W → ℕ) where
  pub puts_none : (a : W) → is_open a → PutsAll written is_open faults a a []
  puts_none a open_ = record { put = Appends-nil (written a); still_open = open_; no_fault = refl }

  pub puts_one : (a b : W) (ranges : List Range) (text : List ℕ) → text ≡ line_of ranges → Appends (written a) (written b) text → is_open b → faults b ≡ faults a → PutsAll written is_open faults a b (ranges ∷ [])
  puts_one a b ranges text is put open_ same = record {
    put = subst (Appends (written a) (written b)) (is ∙ sym (append-nil (line_of ranges))) put;
    still_open = open_;
    no_fault = same;
  }

  pub puts_part : (a b : W) (ranges : List Range) (text : List ℕ) → text ≡ line_of ranges → AppendsPart (written a) (written b) text → Rose (faults a) (faults b) → PutsPart written is_open faults a b [] (ranges ∷ [])
  puts_part a b ranges text is put rose = record {
    next = ranges;
    others = [];
    is_next = refl;
    part = put.0;
    is_part = subst (IsPartOf put.0) is put.1;
    put = put.2;
    fault = rose;
  }

  puts_more : (a b c : W) (told more : List (List Range)) → PutsAll written is_open faults a b told → PutsAll written is_open faults b c more → PutsAll written is_open faults a c (told ++ more)
  puts_more a b c told more p q = record {
    put = subst (Appends (written a) (written c)) (sym (lines_of-append told more)) (Appends-trans (written a) (written b) (written c) (lines_of told) (lines_of more) p.put q.put);
    still_open = q.still_open;
    no_fault = q.no_fault ∙ p.no_fault;
  }

  puts_then_part : (a b c : W) (told left : List (List Range)) → PutsAll written is_open faults a b told → PutsPart written is_open faults b c [] left → PutsPart written is_open faults a c told left
  puts_then_part a b c told left p q = record {
    next = q.next;
    others = q.others;
    is_next = q.is_next;
    part = q.part;
    is_part = q.is_part;
    put = Appends-trans (written a) (written b) (written c) (lines_of told) q.part p.put q.put;
    fault = subst (λ (n : ℕ). Rose n (faults c)) p.no_fault q.fault;
  }

  module _ (first : W) where
    quiet : (now : W) (t : Told) (told left : List (List Range)) → t.error ≡ None → PutsSo written is_open faults first now t.error told left → (left ≡ []) × PutsAll written is_open faults first now told
    quiet now t told left none puts = subst (λ (o : Option TellError). PutsSo written is_open faults first now o told left) none puts

    pub still_open : (now : W) (made : List (List Range)) (t : Told) → t.error ≡ None → HasPut written is_open faults first now made t → is_open now
    still_open now made t none h = (quiet now t h.told h.left none h.puts).1.still_open

    pub put_none : is_open first → HasPut written is_open faults first first [] (record { count = 0; error = None })
    put_none open_ = record { told = []; left = []; all = refl; count = omega arith; puts = (refl, puts_none first open_) }

    -- the next mark was told
    pub put_next : (mid now : W) (made : List (List Range)) (ranges : List Range) (t : Told) (count : ℕ) → t.error ≡ None → count ≡ up_to_last (t.count + 1) → HasPut written is_open faults first mid made t → PutsAll written is_open faults mid now (ranges ∷ [])
        → HasPut written is_open faults first now (made ++ ranges ∷ []) (record { count = count; error = t.error })
    put_next mid now made ranges t count none is h q =
        let p = quiet mid t h.told h.left none h.puts in
        let told = h.told ++ ranges ∷ [] in
        record {
          told = told;
          left = [];
          all = next_mark made h.told h.left ranges h.all p.0 ∙ sym (append-nil told);
          count = let had = h.count in omega (arith, is, had, length-append h.told (ranges ∷ []));
          puts = subst (λ (o : Option TellError). PutsSo written is_open faults first now o told []) (sym none) (refl, puts_more first mid now h.told (ranges ∷ []) p.1 q);
        }

    -- or it wasn't
    pub put_fails : (mid now : W) (made : List (List Range)) (ranges : List Range) (t : Told) (e : TellError) → t.error ≡ None → HasPut written is_open faults first mid made t → LeavesLine written is_open faults mid now ranges e
        → HasPut written is_open faults first now (made ++ ranges ∷ []) (record { count = t.count; error = Some e })
    put_fails mid now made ranges t e none h q =
        let p = quiet mid t h.told h.left none h.puts in
        record {
          told = h.told;
          left = ranges ∷ [];
          all = next_mark made h.told h.left ranges h.all p.0;
          count = h.count;
          puts = cases e p.1 q;
        }
      where
        cases : (e : TellError) → PutsAll written is_open faults first mid h.told → LeavesLine written is_open faults mid now ranges e → PutsSo written is_open faults first now (Some e) h.told (ranges ∷ [])
        cases error.Memory p q = subst (PutsAll written is_open faults first now) (append-nil h.told) (puts_more first mid now h.told [] p q)
        cases error.Sink p q = puts_then_part first mid now h.told (ranges ∷ []) p q

    -- no memory was there for a mark
    pub put_starved : (now : W) (made : List (List Range)) (t : Told) → t.error ≡ None → HasPut written is_open faults first now made t → HasPut written is_open faults first now made (record { count = t.count; error = Some error.Memory })
    put_starved now made t none h = record {
      told = h.told;
      left = h.left;
      all = h.all;
      count = h.count;
      puts = (quiet now t h.told h.left none h.puts).1;
    }

    -- marks that weren't told behind an error
    pub put_behind : (now : W) (made more : List (List Range)) (t : Told) → (t.error ≡ None → ⊥) → HasPut written is_open faults first now made t → HasPut written is_open faults first now (made ++ more) t
    put_behind now made more t some h = record {
      told = h.told;
      left = h.left ++ more;
      all = ap (λ (l : List (List Range)). l ++ more) h.all ∙ append_assoc h.told h.left more;
      count = h.count;
      puts = cases t.error some h.puts;
    }
      where
        cases : (o : Option TellError) → (o ≡ None → ⊥) → PutsSo written is_open faults first now o h.told h.left → PutsSo written is_open faults first now o h.told (h.left ++ more)
        cases None some puts = absurd (some refl)
        cases (Some error.Memory) some puts = puts
        cases (Some error.Sink) some puts = record {
          next = puts.next;
          others = puts.others ++ more;
          is_next = ap (λ (l : List (List Range)). l ++ more) puts.is_next;
          part = puts.part;
          is_part = puts.is_part;
          put = puts.put;
          fault = puts.fault;
        }
