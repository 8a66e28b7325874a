use Rattle.std.proofs.Common.{◌≡◌, ◌<◌, inl, inr, refl, sym, ap, ◌∙◌, length, rules, arith}
use Rattle.std.proofs.lemmas.List.{length-map}
use Rattle.std.specs.String.{string_bytes}
use Rattle.gft_words.specs.Arguments.{texts}
use Rattle.gft_words.proofs.ArgumentLemmas.{heads, joined, key_alone, value_joined}
use Rattle.gft_words.proofs.arguments.next_option.Goals as goal

pub returns-in_err-next : goal.returns-in_err-next
returns-in_err-next c = rw c.from_residual.ensures (λ key value left is.
    let lacks = rw (← (rw c.in_default.is at c.split_first.ensures.whole)) at c.split_first.ensures.apart in
    let alone = key_alone _ _ key value left lacks is in
    omega (arith, ap length alone.0, length-map c.args.rest.now string_bytes, c.in_err-next.ensures.cases))

pub returns-in_err-value : goal.returns-in_err-value
returns-in_err-value c = rw c.from_residual-in_err-value.ensures (λ key value left is.
    let lacks = rw (← (rw c.in_default.is at c.split_first.ensures.whole)) at c.split_first.ensures.apart in
    let alone = key_alone _ _ key value left lacks is in
    let word : c.as_bytes.result.now ≡ string_bytes c.in_ok-next.next.now = search rules in
    let same = heads _ _ _ _ (sym alone.0 ∙ ap texts c.in_ok-next.ensures.cases.0) in
    c.in_err-value.ensures (rw (word, ← same.0) alone.1))

pub returns-in_default : goal.returns-in_default
returns-in_default c =
    let whole = rw c.in_default.is at c.split_first.ensures.whole in
    let word : c.in_ok-value.value.now ≡ string_bytes c.in_ok-next.next.now = search rules in (
      _,
      _,
      refl,
      record {
        single = c.split_first.ensures.apart;
        form = inr (record { spelt = whole; next = rw word (ap texts c.in_ok-next.ensures.cases.0); plain = rw c.in_ok-value.ensures.0 c.in_ok-value.ensures.1 });
      },
      omega (arith, c.in_ok-next.ensures.cases.1),
    )

pub returns-then-is_empty : goal.returns-then-is_empty
returns-then-is_empty c = λ key value left is.
    let parts = rw c.in-Some.is at c.split_first.ensures.parts in
    let none : length c.in-Some.value.now ≡ 0 = search rules in
    omega (arith, none, value_joined c.args.option.now _ c.split_first.result.0.now c.in-Some.value.now key value left parts is)

pub returns : goal.returns
returns c =
    let parts = rw c.in-Some.is at c.split_first.ensures.parts in
    let some : 0 < length c.in-Some.value.now = search rules in (
      c.split_first.result.0.now,
      c.in-Some.value.now,
      refl,
      record {
        single = c.split_first.ensures.apart;
        form = inl (record { spelt = joined 61 c.args.option.now c.split_first.result.0.now c.in-Some.value.now parts; some = some; left = refl });
      },
      omega arith,
    )
