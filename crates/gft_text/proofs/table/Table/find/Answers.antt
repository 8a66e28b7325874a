use Rattle.std.proofs.Common.{ap, refl, Some, sym, ◌∙◌}
use Rattle.gft_text.specs.Table.{folded}
use Rattle.gft_text.specs.declared.table.Entry.{Entry}
use Rattle.gft_text.proofs.TableLemmas.{same_code}
use Rattle.gft_text.proofs.table.Table.find.Goals as goal

pub returns-then-eq_ignore_ascii_case-clause-one :
    goal.returns-then-eq_ignore_ascii_case-clause-one
returns-then-eq_ignore_ascii_case-clause-one c = λ e among same.
    let hit = rw c.as_bytes.ensures.value at (c.if-eq_ignore_ascii_case.ensures.test.0 refl) in
    let texts = hit ∙ sym same ∙ ap (λ (x : Entry). folded x.text.now) (sym among.2) in
    ap Some (same_code c.args.self.now.entries.now c.args.self.now.distinct c.loop-entry.entry-index among.0 _ e c.loop-entry-test.true among.1 texts ∙ ap (λ (x : Entry). x.code) among.2)
