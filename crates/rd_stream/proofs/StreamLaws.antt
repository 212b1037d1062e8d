-- What is written to a stream buffer is read in that order.
use Rattle.std.proofs.Common.{◌≡◌, ◌∙◌, ℕ, List, [], ◌∷◌, ◌++◌, length, map, take, drop, refl, ap, ap₂, sym, append_assoc, append-nil}
use Rattle.std.proofs.lemmas.List.{length-take-le, take-append-drop}
use Rattle.std.specs.List.{concat}
use Rattle.rd_stream.specs.StreamSnapshot.{StreamSnapshot}
use Rattle.rd_stream.specs.StreamLaws.{StreamAccess, Write, Read, accessed, all_accessed, counts_asked, reads, writes, EachFits, BytesComeOutInOrder}

in_order : (stream : StreamSnapshot) (accesses : List StreamAccess)
    → stream.bytes ++ concat (writes accesses) ≡ concat (reads stream accesses) ++ (all_accessed stream accesses).bytes
in_order stream [] = append-nil stream.bytes
in_order stream (Write bytes ∷ later) =
    sym (append_assoc stream.bytes bytes (concat (writes later))) ∙ in_order (accessed stream (Write bytes)) later
in_order stream (Read count ∷ later) =
    let after = accessed stream (Read count) in
    let first = take count stream.bytes in
    ap (λ (bytes : List ℕ). bytes ++ concat (writes later)) (sym (take-append-drop count stream.bytes))
    ∙ append_assoc first (drop count stream.bytes) (concat (writes later))
    ∙ ap (λ (bytes : List ℕ). first ++ bytes) (in_order after later)
    ∙ sym (append_assoc first (concat (reads after later)) (all_accessed after later).bytes)

as_asked : (stream : StreamSnapshot) (accesses : List StreamAccess) → EachFits stream accesses → map length (reads stream accesses) ≡ counts_asked accesses
as_asked stream [] fits = refl
as_asked stream (Write bytes ∷ later) fits = as_asked (accessed stream (Write bytes)) later fits.1
as_asked stream (Read count ∷ later) fits =
    ap₂ (λ (n : ℕ) (ns : List ℕ). n ∷ ns) (length-take-le count stream.bytes fits.0) (as_asked (accessed stream (Read count)) later fits.1)

pub bytes_come_out_in_order : BytesComeOutInOrder
bytes_come_out_in_order stream accesses fits = record { order = in_order stream accesses; counts = as_asked stream accesses fits }
