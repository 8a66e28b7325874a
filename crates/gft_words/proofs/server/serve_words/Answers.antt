use Rattle.std.proofs.Common.{refl}
use Rattle.gft_words.specs.Arguments.{given_by}
use Rattle.gft_words.specs.Serve.{is_serve_option}
use Rattle.gft_words.proofs.OptionLemmas.{AllPass-map, AllPass-unmap}
use Rattle.gft_words.proofs.server.serve_words.Goals as goal

pub returns-then-not-are_serve_options : goal.returns-then-not-are_serve_options
returns-then-not-are_serve_options c = λ value is.
    absurd (cc (c.if-not-are_serve_options.ensures.1 (AllPass-unmap is_serve_option given_by c.args.options.now is.known)))

pub returns : goal.returns
returns c = record {
  known = AllPass-map is_serve_option given_by c.args.options.now (c.if-not-are_serve_options.ensures.0 refl);
  address = c.in_ok-address_or_loopback.ensures;
  port = c.in_ok-number_or.ensures.number;
  workers = c.in_ok-workers.ensures.number;
  stripes = c.in_ok-number_or-2.ensures.number;
  marker_bytes = c.in_ok-number_or-3.ensures.number;
  idle = c.in_ok-number_or-4.ensures.number;
}
