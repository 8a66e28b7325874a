use Rattle.std.proofs.Common.{◌≡◌, rules, codes}
use Rattle.std.specs.String.{string_bytes}
use Rattle.gft_words.proofs.WordsLemmas.{three_words}
use Rattle.gft_words.proofs.client.read_client_words.Goals as goal

pub returns-in-Some-clause-value : goal.returns-in-Some-clause-value
returns-in-Some-clause-value c =
    let verb : string_bytes c.command-item.result ≡ codes "make" = search rules in
    record {
      seed = string_bytes c.seed-item.result;
      size = string_bytes c.size-item.result;
      whole = rw (← verb) (three_words c.args.words.now _ _ _ c.in-len3.len_at_least c.in-len3.len_below c.command-item.is c.seed-item.is c.size-item.is);
      says = search rules;
    }
