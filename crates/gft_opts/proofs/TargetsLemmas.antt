-- Targets in text.
use Rattle.std.proofs.Common.{◌≡◌, ℕ, ◌/◌, ◌%◌, ◌<◌, ◌≤◌, List, [], ◌∷◌, ◌++◌, length, map, refl, sym, ap, ◌∙◌, arith, lit<}
use Rattle.std.specs.Fmt.{decimal}
use Rattle.std.specs.List.{AllZip, AllByRecursion, flat_map, join_with_byte}
use Rattle.std.proofs.lemmas.List.{append-nil}
use Rattle.gft_base.specs.Words.{parts_at, Lacks}
use Rattle.gft_base.proofs.Lemmas.{parts_some, AllZip-length, AllZip-one}
use Rattle.gft_text.specs.Words.{IsByte, IsHostPort, FitsHostPort, host_port_text, numbers_of}
use Rattle.gft_text.specs.declared.HostPort.{HostPort}
use Rattle.gft_text.proofs.Lemmas.{IsHostPort-text, IsHostPort-one, two_more, decimal_lacks, lacks_joined}
use Rattle.gft_opts.specs.Targets.{FitsTargets, IsTargets, targets_text}
use Rattle.gft_opts.proofs.ListLemmas.{parts_joined}

-- ---- what is written is read again

numbers_single : (ns : List ℕ) → AllByRecursion (λ n. n < 256) ns → Lacks 32 (join_with_byte 44 (map decimal ns))
numbers_single [] fit = λ k d lt. absurd (omega (arith, lt))
numbers_single (n ∷ []) fit = decimal_lacks 32 n (lit< tt) (omega (arith, fit.0))
numbers_single (n ∷ m ∷ ns) fit =
    lacks_joined 32 44 (decimal n) (join_with_byte 44 (map decimal (m ∷ ns))) refl (decimal_lacks 32 n (lit< tt) (omega (arith, fit.0))) (numbers_single (m ∷ ns) fit.1)

address_single : (at : HostPort) → FitsHostPort at → Lacks 32 (host_port_text at)
address_single at fits = numbers_single (numbers_of at) (two_more at.host _ _ fits.bytes (omega (arith, fits.port)) (omega arith))

each_written : (targets : List HostPort) → AllByRecursion FitsHostPort targets → AllByRecursion (λ at. Lacks 32 (host_port_text at) × IsHostPort (host_port_text at) at) targets
each_written [] fit = tt
each_written (at ∷ targets) fit = ((address_single at fit.0, IsHostPort-text at fit.0), each_written targets fit.1)

pub written : (targets : List HostPort) → FitsTargets targets → IsTargets (targets_text targets) targets
written [] fits = absurd (omega (arith, fits.some))
written (at ∷ targets) fits = record {
  read = parts_joined IsHostPort host_port_text 32 at targets (each_written (at ∷ targets) fits.each);
  few = fits.few;
}

-- ---- only such are read

bytes_of : (parts : List (List ℕ)) (ns : List ℕ) → AllZip IsByte parts ns → AllByRecursion (λ n. n < 256) ns
bytes_of [] [] all = tt
bytes_of [] (n ∷ ns) all = absurd all
bytes_of (part ∷ parts) [] all = absurd all
bytes_of (part ∷ parts) (n ∷ ns) all = (all.0.fits, bytes_of parts ns all.1)

parted : (host : List ℕ) (a b : ℕ) → AllByRecursion (λ n. n < 256) (host ++ a ∷ b ∷ []) → AllByRecursion (λ n. n < 256) host × (a < 256)
parted [] a b all = (tt, all.0)
parted (n ∷ host) a b all = let rest = parted host a b all.1 in ((all.0, rest.0), rest.1)

address_fits : (text : List ℕ) (at : HostPort) → IsHostPort text at → FitsHostPort at
address_fits text at is =
    let both = parted at.host (at.port / 256) (at.port % 256) (bytes_of (parts_at 44 text) (numbers_of at) is.numbers) in
    record { host = is.host; bytes = both.0; port = omega (arith, both.1) }

addresses_fit : (parts : List (List ℕ)) (targets : List HostPort) → AllZip IsHostPort parts targets → AllByRecursion FitsHostPort targets
addresses_fit [] [] all = tt
addresses_fit [] (at ∷ targets) all = absurd all
addresses_fit (part ∷ parts) [] all = absurd all
addresses_fit (part ∷ parts) (at ∷ targets) all = (address_fits part at all.0, addresses_fit parts targets all.1)

pub fits : (text : List ℕ) (targets : List HostPort) → IsTargets text targets → FitsTargets targets
fits text targets is = record {
  some = omega (arith, parts_some 32 text, AllZip-length IsHostPort (parts_at 32 text) targets is.read);
  few = is.few;
  each = addresses_fit (parts_at 32 text) targets is.read;
}

-- ---- no text has two values

pub one : (text : List ℕ) (a b : List HostPort) → IsTargets text a → IsTargets text b → a ≡ b
one text a b is_a is_b = AllZip-one IsHostPort IsHostPort-one (parts_at 32 text) a b is_a.read is_b.read

-- ---- the loops

-- each part was read
pub all_read : (text : List ℕ) (done : List (List ℕ)) (targets : List HostPort) → parts_at 32 text ≡ done ++ [] → AllZip IsHostPort done targets → length (parts_at 32 text) ≤ 16 → IsTargets text targets
all_read text done targets same read few =
    let whole = rw append-nil at same in
    let all : AllZip IsHostPort (parts_at 32 text) targets = rw whole read in
    record { read = all; few = omega (arith, few, AllZip-length IsHostPort (parts_at 32 text) targets all) }

-- the addresses behind the first one, each with a space before it
abbrev pub spaced : List HostPort → List ℕ
spaced targets = flat_map (λ at. 32 ∷ host_port_text at) targets

pub text_spaced : (at : HostPort) (targets : List HostPort) → targets_text (at ∷ targets) ≡ host_port_text at ++ spaced targets
text_spaced at [] = rw append-nil refl
text_spaced at (next ∷ targets) = ap (λ (x : List ℕ). host_port_text at ++ 32 ∷ x) (text_spaced next targets)

pub whole_text : (targets : List HostPort) (at : HostPort) (others : List HostPort) (begun text : List ℕ) → targets ≡ at ∷ others → begun ≡ host_port_text at → text ≡ begun ++ spaced others → text ≡ targets_text targets
whole_text targets at others begun text is begun_is text_is =
    text_is ∙ ap (λ (x : List ℕ). x ++ spaced others) begun_is ∙ sym (text_spaced at others) ∙ ap (λ (x : List HostPort). targets_text x) (sym is)
