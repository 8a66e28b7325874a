use Rattle.std.proofs.Common.{◌≡◌, ◌-◌, arith, ap, sym, ◌∙◌, refl}
use Rattle.gft_eblock.specs.declared.channel.State.TheVariants.{Header}
use Rattle.gft_eblock.specs.Spelling.{header_of}
use Rattle.gft_eblock.specs.Arrivals.{refusal}
use Rattle.gft_eblock.specs.Channel.{Reader}
use Rattle.gft_eblock.proofs.FeedLemmas.{header_waits, header_opens, header_fails, header_is_short}
use Rattle.gft_eblock.proofs.channel.Channel.take_header.Goals as goal

pub returns-then-len-lt-HEADER_LEN-clause-ok : goal.returns-then-len-lt-HEADER_LEN-clause-ok
returns-then-len-lt-HEADER_LEN-clause-ok c =
    let r = c.self.inside in
    let in_header : r.state ≡ Header = ap (λ (s : Reader). s.state) c.self.view_is ∙ c.requires.header in
    let short = header_is_short r.state r.taken r.header.items in_header c.self.invariant.2 in
    rw (← c.self.view_is, in_header)
    (header_waits r.shift r.taken _ c.gather-used.result r.header.items _ c.args.piece.now short.1
    (omega (arith, c.gather-used.ensures.size)) (omega (arith, c.gather-used.ensures.used)) c.gather-used.ensures.gathered refl)

pub returns-clause-ok : goal.returns-clause-ok
returns-clause-ok c =
    let r = c.self.inside in
    let in_header : r.state ≡ Header = ap (λ (s : Reader). s.state) c.self.view_is ∙ c.requires.header in
    let short = header_is_short r.state r.taken r.header.items in_header c.self.invariant.2 in
    let read = c.decode-header.ensures ∙ ap header_of (c.deref.ensures.0 ∙ c.gather-used.ensures.gathered) in
    rw (← c.self.view_is, in_header, c.clear.ensures)
    (header_opens r.shift r.taken _ c.gather-used.result r.header.items c.args.piece.now c.decode-header.result c.open_block-state.result.0 c.open_block-state.result.1 short.1
    (omega (arith, c.gather-used.ensures.used)) (omega (arith, c.gather-used.ensures.used, c.gather-used.ensures.size)) read refl
    (sym c.if-is_bad.ensures) c.open_block-state.ensures.carried c.open_block-state.ensures.event c.open_block-state.ensures.sound)

pub returns-then-is_bad-clause-bad : goal.returns-then-is_bad-clause-bad
returns-then-is_bad-clause-bad c =
    let r = c.self.inside in
    let in_header : r.state ≡ Header = ap (λ (s : Reader). s.state) c.self.view_is ∙ c.requires.header in
    let short = header_is_short r.state r.taken r.header.items in_header c.self.invariant.2 in
    let read = c.decode-header.ensures ∙ ap header_of (c.deref.ensures.0 ∙ c.gather-used.ensures.gathered) in
    rw (← c.self.view_is, in_header)
    (header_fails r.shift r.taken _ c.gather-used.result r.header.items _ c.args.piece.now c.decode-header.result c.new-bad.result short.1
    (omega (arith, c.gather-used.ensures.used)) (omega (arith, c.gather-used.ensures.used, c.gather-used.ensures.size)) read refl
    (sym c.if-is_bad.ensures) (c.new-bad.ensures ∙ ap (λ p. refusal p c.decode-header.result) (ap (λ n. r.taken - n) c.len.ensures.value)))
