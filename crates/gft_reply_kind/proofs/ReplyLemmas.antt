-- The texts of replies have no LF, and room in a line.
use Rattle.std.proofs.Common.{◌≡◌, ℕ, ◌+◌, ◌*◌, ◌/◌, ◌%◌, ◌<◌, ◌≤◌, ◌^◌, Bool, true, false, not, ◌&&◌, eqb, List, [], ◌∷◌, ◌++◌, length, length-append, map, refl, ◌∙◌, lit<, arith}
use Rattle.std.specs.Prelude.{decimal}
use Rattle.std.specs.List.{AllByRecursion, AllZip, join_with_byte, list_all}
use Rattle.std.proofs.lemmas.Bool.{lt-ltb, ltb-true}
use Rattle.std.proofs.lemmas.Fmt.{length-decimal-le}
use Rattle.std.proofs.lemmas.List.Folds.{list_all-append}
use Rattle.std.proofs.lemmas.List.Sums.{list_all-from_AllPass}
use Rattle.std.proofs.lemmas.List.Elements.{All-append, All-nil}
use Rattle.gft_base.specs.Words.{Lacks, comma, line_feed}
use Rattle.gft_text.specs.Words.{IsByte, IsHostPort, host_port_text, numbers_of}
use Rattle.gft_text.specs.declared.host_port.HostPort.{HostPort}
use Rattle.gft_text.proofs.Lemmas.{decimal_lacks, lacks_joined, literal_lacks}
use Rattle.gft_reply.specs.declared.reply.Reply.{Reply}
use Rattle.gft_reply.specs.declared.TheConstants.{LINE_COUNT_LIMIT}
use Rattle.gft_reply.specs.Words.{FitsReply}
use Rattle.gft_reply.proofs.Lemmas.{FitsReply-short, IsLineText}
use Rattle.gft_reply_kind.specs.Replies.{IsPiece, is_line}

-- ---- a line's test, in words

not_false : (b : Bool) → b ≡ false → not b ≡ true
not_false true is = cc is
not_false false is = refl

both : (a b : Bool) → a ≡ true → b ≡ true → (a && b) ≡ true
both true b one other = other
both false b one other = one

both_ways : (a b : Bool) → (a && b) ≡ true → (a ≡ true) × (b ≡ true)
both_ways true b one = (refl, one)
both_ways false b one = absurd (cc one)

-- a text without an LF, and with room
pub line_from : (text : List ℕ) → Lacks line_feed text → length text < 1000 → is_line text ≡ true
line_from text lacks short = both _ _ (list_all-from_AllPass (λ b. not (eqb b line_feed)) text (λ k d lt. not_false _ (lacks k d lt))) (lt-ltb (length text) 1000 short)

line_text : (text : List ℕ) → is_line text ≡ true → IsLineText text
line_text text test =
    let halves = both_ways _ _ test in
    (literal_lacks line_feed text halves.0, omega (arith, ltb-true (length text) 1000 halves.1))

line_texts : (texts : List (List ℕ)) → list_all is_line texts ≡ true → AllByRecursion IsLineText texts
line_texts [] test = tt
line_texts (text ∷ texts) test = let halves = both_ways _ _ test in (line_text text halves.0, line_texts texts halves.1)

-- a reply of such lines has a text
pub fits : (reply : Reply) → 100 ≤ reply.code → reply.code ≤ 599 → 0 < length reply.lines → length reply.lines < LINE_COUNT_LIMIT → list_all is_line reply.lines ≡ true → FitsReply reply
fits reply least most some few test = FitsReply-short reply least most some few (line_texts reply.lines test)

pub one_more_line : (lines : List (List ℕ)) (text : List ℕ) → list_all is_line lines ≡ true → is_line text ≡ true → list_all is_line (lines ++ text ∷ []) ≡ true
one_more_line lines text all one = list_all-append is_line lines (text ∷ []) ∙ both _ _ all (both _ _ one refl)

decimal-short : (n : ℕ) → n < 2 ^ 64 → length (decimal n) ≤ 20
decimal-short n below = length-decimal-le 20 n (omega arith) (omega arith) below

-- ---- pieces of a line

pub literal : (text : List ℕ) (most : ℕ) → list_all (λ b. not (eqb b line_feed)) text ≡ true → length text ≤ most → IsPiece text most
literal text most test short = record { lacks = literal_lacks line_feed text test; short = short }

pub number : (n : ℕ) → n < 2 ^ 64 → IsPiece (decimal n) 20
number n below = record { lacks = decimal_lacks line_feed n (lit< tt) below; short = decimal-short n below }

pub number_in : (n most : ℕ) → most ≤ 2 ^ 64 → n < most → IsPiece (decimal n) 20
number_in n most within below = number n (omega (arith, within, below))

pub joined : (first next : List ℕ) (m n : ℕ) → IsPiece first m → IsPiece next n → IsPiece (first ++ next) (m + n)
joined first next m n a b = record {
  lacks = All-append (λ b. eqb b line_feed ≡ false) first next a.lacks b.lacks;
  short = omega (arith, length-append first next, a.short, b.short);
}

pub short_line : (text : List ℕ) (most : ℕ) → IsPiece text most → most < 1000 → is_line text ≡ true
short_line text most piece room = line_from text piece.lacks (omega (arith, piece.short, room))

-- ---- addresses

each_byte : (parts : List (List ℕ)) (ns : List ℕ) → AllZip IsByte parts ns → AllByRecursion (λ n. n < 256) ns
each_byte [] [] all = tt
each_byte [] (n ∷ ns) all = absurd all
each_byte (part ∷ parts) [] all = absurd all
each_byte (part ∷ parts) (n ∷ ns) all = (all.0.fits, each_byte parts ns all.1)

joined-lacks : (ns : List ℕ) → AllByRecursion (λ n. n < 256) ns → Lacks line_feed (join_with_byte comma (map decimal ns))
joined-lacks [] all = All-nil (λ b. eqb b line_feed ≡ false)
joined-lacks (n ∷ []) all = decimal_lacks line_feed n (lit< tt) (omega (arith, all.0))
joined-lacks (n ∷ m ∷ ns) all = lacks_joined line_feed comma (decimal n) (join_with_byte comma (map decimal (m ∷ ns))) refl (decimal_lacks line_feed n (lit< tt) (omega (arith, all.0))) (joined-lacks (m ∷ ns) all.1)

joined-short : (ns : List ℕ) → AllByRecursion (λ n. n < 256) ns → length (join_with_byte comma (map decimal ns)) ≤ 21 * length ns
joined-short [] all = omega arith
joined-short (n ∷ []) all = omega (arith, decimal-short n (omega (arith, all.0)))
joined-short (n ∷ m ∷ ns) all =
    omega (arith, decimal-short n (omega (arith, all.0)), joined-short (m ∷ ns) all.1, length-append (decimal n) (comma ∷ join_with_byte comma (map decimal (m ∷ ns))))

address-lacks : (at : HostPort) (text : List ℕ) → IsHostPort text at → Lacks line_feed (host_port_text at)
address-lacks at text is = joined-lacks (numbers_of at) (each_byte _ _ is.numbers)

address-short : (at : HostPort) (text : List ℕ) → IsHostPort text at → length (host_port_text at) ≤ 126
address-short at text is =
    omega (arith, joined-short (numbers_of at) (each_byte _ _ is.numbers), length-append at.host (at.port / 256 ∷ at.port % 256 ∷ []), is.host)

pub address : (at : HostPort) (text : List ℕ) → IsHostPort text at → IsPiece (host_port_text at) 126
address at text is = record { lacks = address-lacks at text is; short = address-short at text is }
