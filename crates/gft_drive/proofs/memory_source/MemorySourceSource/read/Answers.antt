use Rattle.std.proofs.Common.{◌≡◌, ◌+◌, ◌-◌, ◌<◌, ◌≤◌, length, take, drop, arith, ap, ◌∙◌}
use Rattle.std.proofs.lemmas.List.{drop_all}
use Rattle.gft_drive.specs.Memory.{Given}
use Rattle.gft_drive.proofs.Reading.{read_front}
use Rattle.gft_drive.proofs.memory_source.MemorySourceSource.read.Goals as goal

pub returns-clause-bytes : goal.returns-clause-bytes
returns-clause-bytes c =
    let bytes = c.self.inside.bytes.items in
    let at = c.self.inside.at in
    let count = c.min-count.result in
    let in_bytes : at ≤ length bytes = c.self.invariant.0 in
    let some : 0 < c.self.inside.most = c.self.invariant.1 in
    let fits : at + count ≤ length bytes = omega (arith, c.min-count.ensures, c.min.ensures, c.len.ensures) in
    let same : at + count - at ≡ count = omega arith in
    let same_left : c.args.self.now.left ≡ drop at bytes = cc (ap (λ (v : Given). v.left) c.begin.ensures, ap (λ (v : Given). v.left) c.self.view_is) in
    let copied = c.copy_from_slice.ensures.after ∙ ap (λ n. take n (drop at c.deref.result.now)) same ∙ ap (λ l. take count (drop at l)) c.deref.ensures.value in
    (same_left ∙ read_front bytes (drop count c.args.buf.now) c.copy_from_slice.new.self at count fits copied, λ none room. drop_all _ bytes (omega (arith, none, some, c.requires, c.min-count.ensures, c.min.ensures, c.len.ensures)))
