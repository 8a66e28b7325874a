use Rattle.std.proofs.Common.{◌≡◌, ◌∙◌, ◌++◌, ◌∷◌, ◌<◌, ◌^◌, [], ℕ, List, None, length, map, take, ap, refl, subst, sym}
use Rattle.std.specs.Prelude.{All, Bool, slice_index_or}
use Rattle.std.proofs.lemmas.List.{append_assoc}
use Rattle.gft_range.specs.declared.Range.{Range}
use Rattle.gft_range.specs.declared.TheConstants.{MAX_ITEMS}
use Rattle.gft_drive.specs.Words.{sent_by}
use Rattle.gft_keep.specs.Words.{keep_of}
use Rattle.gft_pass.specs.Words.{Lane}
use Rattle.gft_book.specs.Words.{HasAllPasses, IsPassOf, SamePass, Start, book_of, named_by, start_now}
use Rattle.gft_book.proofs.Lemmas.{IsLive-known, IsLive-running, IsLive-unknown, KeptSince-keeps, passes_fit}
use Rattle.gft_receive.specs.Telling.{IsTellers}
use Rattle.gft_receive.specs.Transfer.{AreFresh, AreReady, IsLaneReady, IsWorked, MovesEach}
use Rattle.gft_receive.specs.Known.{left_of, only_total, totals_left, works_total}
use Rattle.gft_receive.proofs.CompleteLemmas.{completes}
use Rattle.gft_receive.proofs.KnownLemmas.{known_kept, lanes_total, works_tell}
use Rattle.gft_receive.proofs.PartLemmas.{parts_complete}
use Rattle.gft_receive.proofs.ListLemmas.{at_last, refilled_by}
use Rattle.gft_receive.proofs.RunLemmas.{all_back, all_ready, count_of, counts_back, ends_run, honest_run, lane_of, last_table, listed_run, live_pass, moves_each, pass_of, pass_there, same_pass, same_pass_of, started_pass}
use Rattle.gft_receive.proofs.ToldLemmas.{has_told, tellers_of}
use Rattle.gft_receive.proofs.transfer.run.Goals as goal

pub run_movers-book-requires-clause-live : goal.run_movers-book-requires-clause-live
run_movers-book-requires-clause-live g c κs within =
    let state = g.D.Drive.state in
    let sent = sent_by g.O.Origin.source g.O.Origin.orders g.O.Origin.fit in
    let start = start_now (book_of state c.args.book) in
    let book = book_of state c.args.book in
    let works = c.as_mut_slice.result.now in
    let shift = c.args.limits.now.shift in (
      IsLive-known start (works_total g.L.Lane.state shift c.args.book.stage works) book (IsLive-running sent book c.facts.ensures c.requires.running),
      known_kept (record start { total = works_total g.L.Lane.state shift c.args.book.stage works }) c.args.book.stage (only_total (totals_left shift (map (left_of g.L.Lane.state) works))) c.requires.running refl,
    )

pub run_movers-book-requires-clause-teller : goal.run_movers-book-requires-clause-teller
run_movers-book-requires-clause-teller g c κs within =
    let state = g.D.Drive.state in
    let sent = sent_by g.O.Origin.source g.O.Origin.orders g.O.Origin.fit in
    let start = start_now (book_of state c.args.book) in
    let mine = started_pass (book_of state c.args.book) c.args.book.stage c.args.teller (pass_there c.args.book.stage (c.args.passes.items ++ c.args.teller ∷ []) (length c.args.passes.items) c.args.teller c.requires.passes.0 (at_last c.args.passes.items c.args.teller)) in
    let is = c.new-teller.ensures.pass in
    record {
      pass = subst (λ (p : Lane). IsPassOf start p) (sym is) mine;
      count = ap (λ (p : Lane). p.count) is ∙ c.requires.passes.1 (length c.args.passes.items) c.args.teller (at_last c.args.passes.items c.args.teller);
      taken = ap (λ t. t.marks) c.new-teller.ensures.taker ∙ c.requires.line.2;
      told = c.new-teller.ensures.told;
    }

pub run_movers-book-requires-clause-works : goal.run_movers-book-requires-clause-works
run_movers-book-requires-clause-works g c κs within =
    let state = g.D.Drive.state in
    let sent = sent_by g.O.Origin.source g.O.Origin.orders g.O.Origin.fit in
    let start = start_now (book_of state c.args.book) in
    let limits = c.args.limits.now in
    let book = book_of state c.args.book in
    let stage = c.args.book.stage in
    let works = c.take_lanes.new.works.items in
    let all = subst (λ (l : List Lane). HasAllPasses stage (l ++ c.args.teller ∷ [])) c.take_lanes.ensures.passes c.requires.passes.0 in
    let fresh = subst (λ (l : List Lane). AreFresh (l ++ c.args.teller ∷ [])) c.take_lanes.ensures.passes c.requires.passes.1 in
    let ready = subst (λ l. AreReady g.L.Lane.state sent start limits.shift l) c.take_lanes.ensures.lanes c.requires.lanes.0 in
    subst (λ l. All (IsLaneReady g.L.Lane.state sent (record start { total = works_total g.L.Lane.state limits.shift stage l }) limits) l) (sym c.as_mut_slice.ensures.value)
    (all_ready works c.args.teller stage all g.L.Lane.state sent limits book (works_total g.L.Lane.state limits.shift stage works) refl fresh ready c.requires.lanes.1
    (works_tell g.L.Lane.state (record start { total = works_total g.L.Lane.state limits.shift stage works }) limits.shift stage works refl))

pub finish-requires-clause-storing : goal.finish-requires-clause-storing
finish-requires-clause-storing g c κs within =
    let state = g.D.Drive.state in
    let sent = sent_by g.O.Origin.source g.O.Origin.orders g.O.Origin.fit in
    let start = start_now (book_of state c.args.book) in
    let mine = started_pass (book_of state c.args.book) c.args.book.stage c.args.teller (pass_there c.args.book.stage (c.args.passes.items ++ c.args.teller ∷ []) (length c.args.passes.items) c.args.teller c.requires.passes.0 (at_last c.args.passes.items c.args.teller)) in
    let total = works_total g.L.Lane.state c.args.limits.now.shift c.args.book.stage c.as_mut_slice.result.now in
    let mid = book_of state c.run_movers-book.result.0 in
    let own = subst (λ (p : Lane). SamePass p c.run_movers-book.new.teller.pass) c.new-teller.ensures.pass c.run_movers-book.ensures.teller.pass in
    live_pass start mid.stage c.run_movers-book.new.teller.pass (IsLive-unknown start total mid c.run_movers-book.ensures.live.0).transfer (same_pass_of start c.args.teller c.run_movers-book.new.teller.pass own mine)

pub settle-end-requires-clause-passes : goal.settle-end-requires-clause-passes
settle-end-requires-clause-passes g c κs within =
    let state = g.D.Drive.state in
    let sent = sent_by g.O.Origin.source g.O.Origin.orders g.O.Origin.fit in
    let start = start_now (book_of state c.args.book) in
    let total = works_total g.L.Lane.state c.args.limits.now.shift c.args.book.stage c.as_mut_slice.result.now in
    let known : Start = record start { total = total } in
    let ended = book_of state c.finish.new.book in
    let live = IsLive-unknown start total ended (c.finish.ensures.live.live known c.run_movers-book.ensures.live.0) in
    let works = c.take_lanes.new.works.items in
    let new = c.run_movers-book.new.works in
    let v = c.as_mut_slice.ensures.value in
    let same : length new ≡ length works = c.run_movers-book.auto.works ∙ ap (λ l. length l) v in
    let worked = subst (λ l. (i : ℕ) (d : _) → i < length l → IsWorked g.L.Lane.state c.args.limits.now (slice_index_or l i d) (slice_index_or new i d)) v c.run_movers-book.ensures.worked in
    let all = subst (λ (l : List Lane). HasAllPasses c.args.book.stage (l ++ c.args.teller ∷ [])) c.take_lanes.ensures.passes c.requires.passes.0 in
    let passes : c.push_reserved.new.self.items ≡ map pass_of new ++ c.finish.new.self.pass ∷ [] = c.push_reserved.ensures.items ∙ ap (λ (l : List Lane). l ++ c.finish.new.self.pass ∷ []) (c.give_back.ensures.passes ∙ ap (λ l. map pass_of l) (refilled_by works new c.take_lanes.new.works.len same c.take_lanes.new.works.ok.0)) in
    let own = subst (λ (p : Lane). SamePass p c.run_movers-book.new.teller.pass) c.new-teller.ensures.pass c.run_movers-book.ensures.teller.pass in
    let its = same_pass c.args.teller c.run_movers-book.new.teller.pass c.finish.new.self.pass own c.finish.ensures.pass in
    subst (λ (l : List Lane). HasAllPasses c.finish.new.book.stage l) (sym passes)
    (passes_fit (book_of state c.args.book) ended (map pass_of new ++ c.finish.new.self.pass ∷ [])
    (all_back c.args.book.stage works new c.args.teller c.finish.new.self.pass same (λ i d lt. (worked i d lt).pass) its all) live)

pub returns-clause-rest : goal.returns-clause-rest
returns-clause-rest g c =
    let state = g.D.Drive.state in
    let sent = sent_by g.O.Origin.source g.O.Origin.orders g.O.Origin.fit in
    let start = start_now (book_of state c.args.book) in
    let total = works_total g.L.Lane.state c.args.limits.now.shift c.args.book.stage c.as_mut_slice.result.now in
    let known : Start = record start { total = total } in
    let ended = book_of state c.finish.new.book in
    let live = IsLive-unknown start total ended (c.finish.ensures.live.live known c.run_movers-book.ensures.live.0) in
    (c.settle-end.ensures.rest.rest, last_table start c.finish.new.book.stage c.settle-end.new.self.last live.transfer c.settle-end.ensures.rest.last)

pub returns-clause-kept : goal.returns-clause-kept
returns-clause-kept g c =
    let state = g.D.Drive.state in
    let sent = sent_by g.O.Origin.source g.O.Origin.orders g.O.Origin.fit in
    let start = start_now (book_of state c.args.book) in
    let total = works_total g.L.Lane.state c.args.limits.now.shift c.args.book.stage c.as_mut_slice.result.now in
    let known : Start = record start { total = total } in
    let ended = book_of state c.finish.new.book in
    let live = IsLive-unknown start total ended (c.finish.ensures.live.live known c.run_movers-book.ensures.live.0) in
    KeptSince-keeps start ended.keep (keep_of state c.settle-end.new.self.keep) c.facts-2.ensures.keep live.kept c.settle-end.ensures.keeps.keeps

pub returns-clause-run : goal.returns-clause-run
returns-clause-run g c =
    let state = g.D.Drive.state in
    let sent = sent_by g.O.Origin.source g.O.Origin.orders g.O.Origin.fit in
    let start = start_now (book_of state c.args.book) in
    let total = works_total g.L.Lane.state c.args.limits.now.shift c.args.book.stage c.as_mut_slice.result.now in
    let known : Start = record start { total = total } in
    let ended = book_of state c.finish.new.book in
    let live = IsLive-unknown start total ended (c.finish.ensures.live.live known c.run_movers-book.ensures.live.0) in
    let works = c.take_lanes.new.works.items in
    let new = c.run_movers-book.new.works in
    let v = c.as_mut_slice.ensures.value in
    let same : length new ≡ length works = c.run_movers-book.auto.works ∙ ap (λ l. length l) v in
    let worked = subst (λ l. (i : ℕ) (d : _) → i < length l → IsWorked g.L.Lane.state c.args.limits.now (slice_index_or l i d) (slice_index_or new i d)) v c.run_movers-book.ensures.worked in
    let all = subst (λ (l : List Lane). HasAllPasses c.args.book.stage (l ++ c.args.teller ∷ [])) c.take_lanes.ensures.passes c.requires.passes.0 in
    let passes : c.push_reserved.new.self.items ≡ map pass_of new ++ c.finish.new.self.pass ∷ [] = c.push_reserved.ensures.items ∙ ap (λ (l : List Lane). l ++ c.finish.new.self.pass ∷ []) (c.give_back.ensures.passes ∙ ap (λ l. map pass_of l) (refilled_by works new c.take_lanes.new.works.len same c.take_lanes.new.works.ok.0)) in
    let fresh = subst (λ (l : List Lane). AreFresh (l ++ c.args.teller ∷ [])) c.take_lanes.ensures.passes c.requires.passes.1 in
    let lanes = c.give_back.ensures.lanes ∙ ap (λ l. map lane_of l) (refilled_by works new c.take_lanes.new.works.len same c.take_lanes.new.works.ok.0) in
    let counts : map (λ (p : Lane). p.count) c.push_reserved.new.self.items ≡ map count_of new ++ c.finish.new.self.pass.count ∷ [] = ap (λ (l : List Lane). map (λ (p : Lane). p.count) l) passes ∙ counts_back new c.finish.new.self.pass in
    let each = subst (λ l. MovesEach g.L.Lane.state c.args.limits.now l c.give_back.new.lanes.items (map count_of new)) (sym c.take_lanes.ensures.lanes)
    (subst (λ l. MovesEach g.L.Lane.state c.args.limits.now (map lane_of works) l (map count_of new)) (sym lanes)
    (moves_each works c.args.teller c.args.book.stage all g.L.Lane.state c.args.limits.now new same fresh worked)) in
    let tellers = tellers_of c.finish.new.self.told.error c.put_failed.result c.finish.new.self.pass.count c.put_failed.ensures c.finish.ensures.numbers in
    record {
      counts = map count_of new;
      teller = c.finish.new.self.pass.count;
      each = each;
      tellers = tellers;
      ends = ends_run sent start ended (book_of state c.settle-end.new.self) c.push_reserved.new.self.items (map count_of new ++ c.finish.new.self.pass.count ∷ []) c.settle-end.result
          c.facts-2.ensures live c.settle-end.ensures.rest c.settle-end.ensures.keeps.keeps.counted counts c.settle-end.ensures.finished c.settle-end.ensures.refused;
    }

pub returns-clause-honest : goal.returns-clause-honest
returns-clause-honest g c =
    let state = g.D.Drive.state in
    let sent = sent_by g.O.Origin.source g.O.Origin.orders g.O.Origin.fit in
    let start = start_now (book_of state c.args.book) in
    let total = works_total g.L.Lane.state c.args.limits.now.shift c.args.book.stage c.as_mut_slice.result.now in
    let known : Start = record start { total = total } in
    let ended = book_of state c.finish.new.book in
    let live = IsLive-unknown start total ended (c.finish.ensures.live.live known c.run_movers-book.ensures.live.0) in
    honest_run sent (book_of state c.args.book) ended (keep_of state c.settle-end.new.self.keep) c.settle-end.result c.requires.running live c.settle-end.ensures.honest

pub returns-clause-complete : goal.returns-clause-complete
returns-clause-complete g c =
    let state = g.D.Drive.state in
    let sent = sent_by g.O.Origin.source g.O.Origin.orders g.O.Origin.fit in
    let start = start_now (book_of state c.args.book) in
    let total = works_total g.L.Lane.state c.args.limits.now.shift c.args.book.stage c.as_mut_slice.result.now in
    let known : Start = record start { total = total } in
    let ended = book_of state c.finish.new.book in
    let live = IsLive-unknown start total ended (c.finish.ensures.live.live known c.run_movers-book.ensures.live.0) in
    let works = c.take_lanes.new.works.items in
    let new = c.run_movers-book.new.works in
    let v = c.as_mut_slice.ensures.value in
    let same : length new ≡ length works = c.run_movers-book.auto.works ∙ ap (λ l. length l) v in
    let worked = subst (λ l. (i : ℕ) (d : _) → i < length l → IsWorked g.L.Lane.state c.args.limits.now (slice_index_or l i d) (slice_index_or new i d)) v c.run_movers-book.ensures.worked in
    let all = subst (λ (l : List Lane). HasAllPasses c.args.book.stage (l ++ c.args.teller ∷ [])) c.take_lanes.ensures.passes c.requires.passes.0 in
    let passes : c.push_reserved.new.self.items ≡ map pass_of new ++ c.finish.new.self.pass ∷ [] = c.push_reserved.ensures.items ∙ ap (λ (l : List Lane). l ++ c.finish.new.self.pass ∷ []) (c.give_back.ensures.passes ∙ ap (λ l. map pass_of l) (refilled_by works new c.take_lanes.new.works.len same c.take_lanes.new.works.ok.0)) in
    let fresh = subst (λ (l : List Lane). AreFresh (l ++ c.args.teller ∷ [])) c.take_lanes.ensures.passes c.requires.passes.1 in
    let lanes = c.give_back.ensures.lanes ∙ ap (λ l. map lane_of l) (refilled_by works new c.take_lanes.new.works.len same c.take_lanes.new.works.ok.0) in
    let counts : map (λ (p : Lane). p.count) c.push_reserved.new.self.items ≡ map count_of new ++ c.finish.new.self.pass.count ∷ [] = ap (λ (l : List Lane). map (λ (p : Lane). p.count) l) passes ∙ counts_back new c.finish.new.self.pass in
    let each = subst (λ l. MovesEach g.L.Lane.state c.args.limits.now l c.give_back.new.lanes.items (map count_of new)) (sym c.take_lanes.ensures.lanes)
    (subst (λ l. MovesEach g.L.Lane.state c.args.limits.now (map lane_of works) l (map count_of new)) (sym lanes)
    (moves_each works c.args.teller c.args.book.stage all g.L.Lane.state c.args.limits.now new same fresh worked)) in
    let tellers = tellers_of c.finish.new.self.told.error c.put_failed.result c.finish.new.self.pass.count c.put_failed.ensures c.finish.ensures.numbers in
    let limits = c.args.limits.now in
    let now = keep_of state c.settle-end.new.self.keep in
    let listed = listed_run ended (book_of state c.settle-end.new.self) c.push_reserved.new.self.items (map count_of new ++ c.finish.new.self.pass.count ∷ []) c.settle-end.ensures.rest counts in
    let slice = c.as_mut_slice.result.now in
    let lanes_known = lanes_total g.L.Lane.state limits.shift c.args.book.stage slice c.args.lanes.items (c.take_lanes.ensures.lanes ∙ ap (λ l. map lane_of l) (sym v)) in
    λ quiet.
    let calm = subst (λ (b : Bool). IsTellers b c.finish.new.self.pass.count) quiet tellers in (
      completes g.L.Lane.state limits sent start ended now c.args.lanes.items c.give_back.new.lanes.items (map count_of new) c.finish.new.self.pass.count c.settle-end.result
          calm c.facts-2.ensures live listed each c.settle-end.ensures.refused,
      parts_complete g.L.Lane.state limits sent start total c.args.book.stage ended now c.args.lanes.items c.give_back.new.lanes.items (map count_of new) c.finish.new.self.pass.count c.settle-end.result
          calm c.facts-2.ensures live (c.finish.ensures.live.total known c.run_movers-book.ensures.live.1) lanes_known listed each c.settle-end.ensures.refused,
    )

pub returns-clause-told : goal.returns-clause-told
returns-clause-told g c =
    let state = g.D.Drive.state in
    let sent = sent_by g.O.Origin.source g.O.Origin.orders g.O.Origin.fit in
    let start = start_now (book_of state c.args.book) in
    let total = works_total g.L.Lane.state c.args.limits.now.shift c.args.book.stage c.as_mut_slice.result.now in
    let known : Start = record start { total = total } in
    let ended = book_of state c.finish.new.book in
    let live = IsLive-unknown start total ended (c.finish.ensures.live.live known c.run_movers-book.ensures.live.0) in
    let kept = KeptSince-keeps start ended.keep (keep_of state c.settle-end.new.self.keep) c.facts-2.ensures.keep live.kept c.settle-end.ensures.keeps.keeps in
    let pushed = c.run_movers-book.result.1.marks in
    let more = c.finish.ensures.tells.more in
    let marks : named_by c.settle-end.new.self.marks ≡ named_by c.args.book.marks ++ (pushed ++ more) =
    ap named_by c.settle-end.ensures.rest.marks ∙ c.finish.ensures.tells.marks ∙ ap (λ (l : List (List Range)). l ++ more) c.run_movers-book.ensures.line.marks ∙ append_assoc (named_by c.args.book.marks) pushed more in
    has_told g.W.Sink.written g.W.Sink.is_open g.W.Sink.faults c.args.out.now c.finish.new.out c.finish.new.self.told pushed more
    (c.finish.ensures.tells.tells c.args.out.now c.run_movers-book.ensures.teller.puts) c.put_failed.result c.put_failed.ensures
    sent start.label (book_of state c.settle-end.new.self) c.args.book.marks c.settle-end.result c.finish.new.book.stage ended.keep
    c.facts-3.ensures kept.label marks (subst (λ (n : ℕ). n < 2 ^ 64) c.mark_count-marks.ensures c.count_fits.ensures)
    (subst (λ k. c.finish.new.self.told.error ≡ None → 0 < length (keep_of state k).ranges → more ≡ take MAX_ITEMS (keep_of state k).ranges ∷ []) (sym c.finish.ensures.keep) c.finish.ensures.tells.last)
    c.finish.ensures.failed c.settle-end.ensures.rest.ranges c.settle-end.ensures.finished
