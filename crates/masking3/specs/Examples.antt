-- Replies worked by hand, masked in the usual ways.
use Rattle.std.specs.Prelude.{◌≡◌, ℕ, List, [], ◌∷◌, codes}
use Rattle.xdr3.specs.Item.{Item, Word, Hyper}
use Rattle.capture3.specs.Entry.{Entry}
use Rattle.canon3.specs.Examples.{success_reply}
use Rattle.masking3.specs.Masked.{masked}
use Rattle.masking3.specs.Ways.{usual}

-- the entries are masked as these
abbrev pub AreMaskedAs : List Entry → List Entry → Type 0
AreMaskedAs entries form = masked usual entries ≡ form

-- the attributes of a file of five bytes (fattr3, RFC 1813), with one time in place of three
abbrev pub file_attributes : (used fsid fileid sec nsec : ℕ) → List Item
file_attributes used fsid fileid sec nsec =
    Word (codes "type") 1 ∷ Word (codes "mode") 420 ∷ Word (codes "nlink") 1
    ∷ Word (codes "uid") 1000 ∷ Word (codes "gid") 100
    ∷ Hyper (codes "size") 5 ∷ Hyper (codes "used") used ∷ Word (codes "rdev1") 0
    ∷ Word (codes "rdev2") 0
    ∷ Hyper (codes "fsid") fsid ∷ Hyper (codes "fileid") fileid ∷ Word (codes "atime_sec") sec
    ∷ Word (codes "atime_nsec") nsec
    ∷ Word (codes "mtime_sec") sec ∷ Word (codes "mtime_nsec") nsec
    ∷ Word (codes "ctime_sec") sec ∷ Word (codes "ctime_nsec") nsec ∷ []

-- GETATTR (RFC 1813, section 3.3.1): the size stays, and an id of a file is numbered apart from
-- an equal one of a file system
abbrev pub getattr_reply : (xid used fsid fileid sec nsec : ℕ) → Entry
getattr_reply xid used fsid fileid sec nsec = success_reply 100003 1 xid
    (Word (codes "status") 0 ∷ file_attributes used fsid fileid sec nsec)

abbrev pub MasksGetattrs : Type 0
MasksGetattrs = AreMaskedAs
    (getattr_reply 7 4096 9 9 1700000000 12345 ∷ getattr_reply 8 512 9 77 1700000001 6
    ∷ getattr_reply 9 512 9 9 1700000001 7 ∷ [])
    (getattr_reply 7 0 1 1 0 0 ∷ getattr_reply 8 0 1 2 0 0 ∷ getattr_reply 9 0 1 1 0 0 ∷ [])
