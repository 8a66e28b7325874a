use Rattle.std.proofs.Common.{arith, refl, sym, ◌∙◌}
use Rattle.gft_eblock.specs.Channel.{to_come_in}
use Rattle.gft_eblock.proofs.FeedLemmas.{eof_empty, in_limit, good_empty, good_data}
use Rattle.gft_eblock.proofs.channel.open_block.Goals as goal
use Rattle.gft_eblock.proofs.channel.open_block.Goals.{then-eod, else-eod}

pub overflow_add-offset : goal.overflow_add-offset
overflow_add-offset c = let fits = in_limit c.args.shift c.args.header.now c.requires c.if-header-gt0.true in omega arith

pub returns-then-header-gt0-clause-sound : goal.returns-then-header-gt0-clause-sound
returns-then-header-gt0-clause-sound c taken = (c.if-header-gt0.true, in_limit c.args.shift c.args.header.now c.requires c.if-header-gt0.true, refl)

pub returns-then-header-gt0-clause-carried : goal.returns-then-header-gt0-clause-carried
returns-then-header-gt0-clause-carried c taken later =
    rw c.is_eod-eod.ensures (good_data c.args.shift taken c.args.header.now later (sym c.if-is_eof.ensures))

pub returns-then-eod-2-clause-carried : goal.returns-then-eod-2-clause-carried
unfolding to_come_in
returns-then-eod-2-clause-carried c taken later =
    good_empty c.args.shift taken c.args.header.now later (omega arith) ∙ rw (← c.if-is_eof.ensures, ← c.if-eod-2.ensures)

pub returns-else-eod-2-clause-carried : goal.returns-else-eod-2-clause-carried
returns-else-eod-2-clause-carried c taken later =
    good_empty c.args.shift taken c.args.header.now later (omega arith) ∙ rw (← c.if-is_eof.ensures, ← c.if-eod-2.ensures)

pub returns-after-eod-clause-carried : goal.returns-after-eod-clause-carried
unfolding to_come_in
returns-after-eod-clause-carried c taken later =
    let h = c.args.header.now in
    let eof = sym c.if-is_eof.ensures in
    let told = good_empty c.args.shift taken h later (eof_empty c.args.shift h c.requires eof) in
    elim c.if-eod.branch [
      | then-eod w ↦ told ∙ rw (eof, ← c.is_eod-eod.ensures, w.if-eod.true, w.state-is)
      | else-eod w ↦ told ∙ rw (eof, ← c.is_eod-eod.ensures, w.if-eod.false, w.state-is)
    ]
