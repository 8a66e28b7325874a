-- Addresses in text.
use Rattle.std.proofs.Common.{◌≡◌, ℕ, ◌+◌, ◌/◌, ◌%◌, ◌<◌, ◌^◌, List, [], ◌∷◌, ◌++◌, length, length-append, arith, refl, ap, map, get_or, lit<, ◌∙◌}
use Rattle.std.specs.List.{AllZip, AllByRecursion, join_with_byte}
use Rattle.std.specs.Fmt.{decimal}
use Rattle.gft_base.proofs.Lemmas.{parts-decimals, IsNumber-one, IsNumber-decimal, AllZip-length, AllZip-one}
use Rattle.gft_base.specs.Words.{comma, parts_at}
use Rattle.gft_text.specs.HostPort.{IsByte, IsHostPort, FitsHostPort, host_port_text}
use Rattle.gft_text.specs.declared.host_port.HostPort.{HostPort}

-- as many parts as there are numbers: those done, and those left
pub parts_count : (parts done left : List (List ℕ)) (vs ns : List ℕ) → parts ≡ done ++ left → AllZip IsByte done vs → AllZip IsByte parts ns → length vs + length left ≡ length ns
parts_count parts done left vs ns same all_done all =
    omega (arith, AllZip-length IsByte done vs all_done, AllZip-length IsByte parts ns all, ap length same, length-append done left)

pub two_more : (host : List ℕ) (a b : ℕ) → AllByRecursion (λ n. n < 256) host → a < 256 → b < 256 → AllByRecursion (λ n. n < 256) (host ++ a ∷ b ∷ [])
two_more [] a b all la lb = (la, (lb, tt))
two_more (n ∷ host) a b all la lb = (all.0, two_more host a b all.1 la lb)

each_byte : (ns : List ℕ) → AllByRecursion (λ n. n < 256) ns → AllByRecursion (λ m. (m < 2 ^ 64) × IsByte (decimal m) m) ns
each_byte [] fit = tt
each_byte (n ∷ ns) fit = ((omega (arith, fit.0), record { number = IsNumber-decimal n (omega (arith, fit.0)); fits = fit.0 }), each_byte ns fit.1)

-- texts of bytes
bytes-decimals : (ns : List ℕ) → 0 < length ns → AllByRecursion (λ n. n < 256) ns → AllZip IsByte (parts_at comma (join_with_byte comma (map decimal ns))) ns
bytes-decimals [] some fit = absurd (omega (arith, some))
bytes-decimals (n ∷ ns) some fit = parts-decimals IsByte comma (lit< tt) n ns (each_byte (n ∷ ns) fit)

-- what is written is read again
pub IsHostPort-text : (at : HostPort) → FitsHostPort at → IsHostPort (host_port_text at) at
IsHostPort-text at fits = record {
  numbers = bytes-decimals _ (omega (arith, length-append at.host (at.port / 256 ∷ at.port % 256 ∷ []))) (two_more at.host _ _ fits.bytes (omega (arith, fits.port)) (omega arith));
  host = fits.host;
}

same_ends : (h k : List ℕ) (a b c d : ℕ) → length h ≡ length k → h ++ a ∷ b ∷ [] ≡ k ++ c ∷ d ∷ [] → (h ≡ k) × (a ≡ c) × (b ≡ d)
same_ends [] [] a b c d long same = (refl, cc, cc)
same_ends [] (y ∷ k) a b c d long same = absurd (omega (arith, long))
same_ends (x ∷ h) [] a b c d long same = absurd (omega (arith, long))
same_ends (x ∷ h) (y ∷ k) a b c d long same =
    let heads : x ≡ y = cc in
    let rest = same_ends h k a b c d (omega (arith, long)) cc in
    (cc, rest.1, rest.2)

same_fields : (a b : HostPort) → a.host ≡ b.host → a.port ≡ b.port → a ≡ b
same_fields a b host port =
    let with_host : List ℕ → HostPort = λ h. record { host = h; port = a.port } in
    let with_port : ℕ → HostPort = λ p. record { host = b.host; port = p } in
    ap with_host host ∙ ap with_port port

-- no text has two values
pub IsHostPort-one : (text : List ℕ) (a b : HostPort) → IsHostPort text a → IsHostPort text b → a ≡ b
IsHostPort-one text a b is_a is_b =
    let same = AllZip-one IsByte (λ part x y of_x of_y. IsNumber-one part x y of_x.number of_y.number) (parts_at comma text) _ _ is_a.numbers is_b.numbers in
    let ends = same_ends a.host b.host _ _ _ _ (omega (arith, is_a.host, is_b.host)) same in
    same_fields a b ends.0 (omega (arith, ends.1, ends.2))

-- four numbers of 8 bits
pub four_bytes : (host : List ℕ) → length host ≡ 4 → get_or host 0 0 < 256 → get_or host 1 0 < 256 → get_or host 2 0 < 256 → get_or host 3 0 < 256 → AllByRecursion (λ n. n < 256) host
four_bytes [] four a b c d = absurd (omega (arith, four))
four_bytes (w ∷ []) four a b c d = absurd (omega (arith, four))
four_bytes (w ∷ x ∷ []) four a b c d = absurd (omega (arith, four))
four_bytes (w ∷ x ∷ y ∷ []) four a b c d = absurd (omega (arith, four))
four_bytes (w ∷ x ∷ y ∷ z ∷ []) four a b c d = (a, (b, (c, (d, tt))))
four_bytes (w ∷ x ∷ y ∷ z ∷ u ∷ more) four a b c d = absurd (omega (arith, four))
