use Rattle.std.proofs.Common.{◌≡◌, rules, codes}
use Rattle.std.specs.String.{string_bytes}
use Rattle.gft_text.specs.Words.{IsName}
use Rattle.gft_words.proofs.WordsLemmas.{two_words}
use Rattle.gft_words.proofs.server.drain_name.Goals as goal

pub returns : goal.returns
returns c =
    let verb : string_bytes c.command-item.result ≡ codes "drain" = search rules in
    let name : c.as_bytes-name.result.now ≡ string_bytes c.name-item.result = search rules in
    let legal : IsName c.as_bytes-name.result.now = search rules in
    record {
      whole = rw (name, ← verb) (two_words c.args.words.now _ _ c.in-len2.len_at_least c.in-len2.len_below c.command-item.is c.name-item.is);
      legal = legal;
    }
