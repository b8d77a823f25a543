-- Condition 3 for one section: grown, it reads as it did, but for what growth put into its closing list. What reads right is told by its
-- parts, both ways (`InParts`); growth keeps all that they are asked for and all that they say.
use Prim.Native.Nat.{ℕ, ◌%◌, ◌<◌}
use native.Mathlib.Omega.{arith}
use mathlib.Core.Path.{◌≡◌, refl, sym, ap, ◌∙◌}
use mathlib.Core.Bool.{Bool, true, false, cond}
use mathlib.Core.List.{List, [], ◌∷◌}
use lib.{Dec.eqb, ListN.get_or-append}
use borrow.Author.Tests.{le-leb, ne_eqb}
use Rattle.rules.specs.{Bytes.byte, Descriptors.Descriptor, Descriptors.bodies, Form.Form, Form.form, InParts.PartsRight, InParts.content_in}
use Rattle.rules.specs.{Growth.GrownParts, Growth.Grown, declared.Table.Table, declared.Revision.Revision}
use Rattle.rules.specs.Section.{Structure, revision_tag, revision, Content, right, read_section}
use Rattle.rules.specs.Parts.{Piece, Parts, said_front, laid_out, bytes_of, Shaped, said}
use Rattle.rules.specs.Growth.{FullerList, empty, kept, added, GrownRevision, stays, other, revised, GrownClosing, FullerPieces, end, next}
use Rattle.rules.proofs.{Right.formal, Right.fitting-says, Right.fitting-so, Right.read-from, Right.read_back, Encoded.pieces-fuller}
use Rattle.rules.proofs.InParts.{first-bytes, read-in-parts, parts-read, right-as}

-- the same, with another closing list
abbrev pub with_closing : Content → List Descriptor → Content
with_closing c ds = record { table = c.table; structure = c.structure; closing = ds; revision = c.revision }

-- ---- the revision

-- bodies that are judged alike, one by one
data SameBodies : (before after : List (List ℕ)) → Type 0 where
  none : SameBodies [] []
  one : {xs ys : List (List ℕ)} {x y : List ℕ} → revision (y ∷ []) ≡ revision (x ∷ []) → SameBodies xs ys → SameBodies (x ∷ xs) (y ∷ ys)

revision-alike : {xs ys : List (List ℕ)} → SameBodies xs ys → revision ys ≡ revision xs
unfolding revision
revision-alike none = refl
revision-alike (one e none) = e
revision-alike (one e (one f a)) = refl

-- "bytes added at the end of the revision descriptor, reserved bits set anyhow"
revised-same : (d e : Descriptor) → GrownRevision d e → revision (e.body ∷ []) ≡ revision (d.body ∷ [])
unfolding revision
revised-same d e r = let q = r.same in rw (le-leb _ _ q.longer, le-leb _ _ q.long, q.number, q.last, q.version)

bodies-alike : {ds es : List Descriptor} → GrownClosing ds es → SameBodies (bodies revision_tag ds) (bodies revision_tag es)
unfolding bodies
bodies-alike empty = none
bodies-alike (kept {ds} {es} {d} {e} (stays q) g) = rw q (go (eqb d.tag revision_tag) (bodies-alike g))
  where
    go : (t : Bool) → SameBodies (bodies revision_tag ds) (bodies revision_tag es)
        → SameBodies (cond t (d.body ∷ bodies revision_tag ds) (bodies revision_tag ds)) (cond t (d.body ∷ bodies revision_tag es) (bodies revision_tag es))
    go true a = one refl a
    go false a = a
bodies-alike (kept {d = d} {e = e} (other n t) g) = rw (ne_eqb d.tag revision_tag n, ne_eqb e.tag revision_tag (λ h. n (sym t ∙ h))) (bodies-alike g)
bodies-alike (kept {ds} {es} {d} {e} (revised r) g) = rw (r.was, r.is) (one (revised-same d e r) (bodies-alike g))
bodies-alike (added d n g) = rw (ne_eqb d.tag revision_tag n) (bodies-alike g)

-- ---- the parts

parts-grown : (t : Table) (p q : Parts) (r : Revision) → Shaped (form t) q → GrownParts p q → PartsRight t p r
    → PartsRight t q r × (said (form t) q ≡ said (form t) p)
unfolding said
parts-grown t p q r shaped g k =
    let l = laid_out (form t) p in
    let f = pieces-fuller l g.pieces (said_front (form t) p).first in (
      record {
        shaped = shaped;
        number = g.number ∙ k.number;
        subtype = rw g.header k.subtype;
        zeros = g.zeros ∙ k.zeros;
        header_zeros = rw g.header k.header_zeros;
        limits = rw g.header k.limits;
        head_zeros = rw g.head k.head_zeros;
        fair = rw (g.header, g.head) (f.1 k.fair);
        revision = read-from _ r [] (revision-alike (bodies-alike g.closing) ∙ read_back _ r k.revision);
      },
      rw (g.header, g.head, f.0),
    )

-- the first byte of the form's part of the header, where it has one, stands in front of the rest
header-first : (f : Form) (p q : Parts) → 0 < f.header.size → Shaped f p → GrownParts p q → byte 3 (bytes_of f q) ≡ byte 3 (bytes_of f p)
unfolding bytes_of byte
header-first f p q n s g =
    rw (g.header, get_or-append p.header _ 0 0 (omega (arith, n, s.header)), get_or-append p.header _ 0 0 (omega (arith, n, s.header)))

-- ---- the whole section

module _ (s g : List ℕ) (w : Grown s g) where
  abbrev table : Table
  table = w.content.table

  read-before : PartsRight table w.before w.content.revision × (w.content ≡ content_in table w.before w.content.revision)
  read-before = right-as s w.content w.reads w.before w.shaped w.was

  pub grown-closing : w.content.closing ≡ w.before.closing
  grown-closing = ap (λ (c : Content). c.closing) read-before.1

  -- the protocol version is the form's part of the header, which stays
  protocol-same : byte 3 g ≡ byte 3 s
  unfolding bytes_of byte
  protocol-same =
      sym (first-bytes g 3 (fitting-says g w.fits) (omega arith)) ∙ ap (byte 3) w.is
      ∙ header-first (form table) w.before w.after (omega (arith, (formal table).low, (formal table).high)) w.shaped w.grows
      ∙ ap (byte 3) (sym w.was) ∙ first-bytes s 3 (read-in-parts s w.content w.reads).fits (omega arith)

  pub grown-reads : read_section g ≡ right (with_closing w.content w.after.closing)
  grown-reads =
      let r = parts-grown table w.before w.after w.content.revision w.reshaped w.grows read-before.0 in
      let same : w.content.structure ≡ said (form table) w.after = ap (λ (c : Content). c.structure) read-before.1 ∙ sym r.1 in
      parts-read g (with_closing w.content w.after.closing) (record {
        parts = w.after;
        right = r.0;
        says = ap (λ (x : Structure). record { table = table; structure = x; closing = w.after.closing; revision = w.content.revision }) same;
        bytes = w.is;
        fits = fitting-says g w.fits;
        crc = w.crc;
        protocol = ap (λ (b : ℕ). b % 32) protocol-same ∙ (read-in-parts s w.content w.reads).protocol;
      })

-- ---- nothing added: every section that reads right is a growth of itself, so the relation leaves none out

pub list-itself : (ds : List Descriptor) → FullerList ds ds
list-itself [] = empty
list-itself (d ∷ ds) = kept refl (list-itself ds)

closing-itself : (ds : List Descriptor) → GrownClosing ds ds
closing-itself [] = empty
closing-itself (d ∷ ds) = kept (stays refl) (closing-itself ds)

pieces-itself : (ps : List Piece) → FullerPieces ps ps
pieces-itself [] = end
pieces-itself (p ∷ ps) = next refl (list-itself p.list) (pieces-itself ps)

pub grown-itself : (s : List ℕ) (c : Content) → read_section s ≡ right c → Grown s s
grown-itself s c e =
    let k = read-in-parts s c e in
    record {
      content = c;
      reads = e;
      before = k.parts;
      after = k.parts;
      was = k.bytes;
      is = k.bytes;
      shaped = k.right.shaped;
      reshaped = k.right.shaped;
      grows =
          record { number = refl; zeros = refl; header = refl; head = refl; pieces = pieces-itself _; closing = closing-itself k.parts.closing };
      fits = fitting-so s k.fits;
      crc = k.crc;
    }
