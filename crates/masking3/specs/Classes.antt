-- The classes of what two runs of one script never share, and the items that belong to them.
use Rattle.std.specs.Prelude.{ℕ, Bool, true, false, bytes_eq, if◌then◌else◌, List, [], ◌∷◌, Option, None, Some, codes}
use Rattle.std.specs.List.{list_any}
use Rattle.byteorder.specs.Endian.{big_number}
use Rattle.xdr3.specs.Item.{Item, Word, Hyper, Fixed, called}
use Rattle.masking3.specs.declared.values.class.Class.{Class}
use Rattle.masking3.specs.declared.values.class.Class.TheVariants.{Times, Stamps, Machines, Space, Ids, Fsids, Cookies, CookieVerifiers, CreateVerifiers, Owners, Wcc, SillyNames, Raw}
use Rattle.masking3.specs.declared.values.spot.ItemSpot.{ItemSpot}
use Rattle.masking3.specs.declared.values.spot.ItemSpot.TheVariants.{InCall, InDirectory, InWcc}
use Rattle.masking3.specs.declared.values.ways.Way.{Way}
use Rattle.masking3.specs.declared.values.ways.Way.TheVariants.{Keep, Zero, Number}

-- ---- the table of classes

-- the place of a class among the classes, its name on a command line, and what two ordinary runs
-- make of it
pub record Row : Type 0 where
  pub place : ℕ
  pub name : List ℕ
  pub usual : Way

abbrev pub row : Class → Row
row Times = record { place = 0; name = codes "times"; usual = Zero }
row Stamps = record { place = 1; name = codes "stamps"; usual = Zero }
row Machines = record { place = 2; name = codes "machines"; usual = Zero }
row Space = record { place = 3; name = codes "space"; usual = Zero }
row Ids = record { place = 4; name = codes "ids"; usual = Number }
row Fsids = record { place = 5; name = codes "fsids"; usual = Number }
row Cookies = record { place = 6; name = codes "cookies"; usual = Number }
row CookieVerifiers = record { place = 7; name = codes "cookieverfs"; usual = Number }
row CreateVerifiers = record { place = 8; name = codes "createverfs"; usual = Number }
row Owners = record { place = 9; name = codes "owners"; usual = Keep }
row Wcc = record { place = 10; name = codes "wcc"; usual = Keep }
row SillyNames = record { place = 11; name = codes "sillynames"; usual = Zero }
row Raw = record { place = 12; name = codes "raw"; usual = Keep }

-- every class, by its place
abbrev pub classes : List Class
classes = Times ∷ Stamps ∷ Machines ∷ Space ∷ Ids ∷ Fsids ∷ Cookies ∷ CookieVerifiers
    ∷ CreateVerifiers ∷ Owners ∷ Wcc ∷ SillyNames ∷ Raw ∷ []

abbrev pub position : Class → ℕ
position class = (row class).place

-- ---- the classes of items

-- the name is one of these
abbrev pub is_one_of : List (List ℕ) → List ℕ → Bool
is_one_of others name = list_any (bytes_eq name) others

-- of times, in attributes, guards and settings (nfstime3, RFC 1813)
abbrev pub names_of_times : List (List ℕ)
names_of_times =
    (called "atime_sec") ∷ (called "atime_nsec") ∷ (called "mtime_sec") ∷ (called "mtime_nsec")
    ∷ (called "ctime_sec") ∷ (called "ctime_nsec") ∷ []

-- of counts of space: FSSTAT3resok's (RFC 1813, section 3.3.18), and what a file uses (fattr3)
abbrev pub names_of_space : List (List ℕ)
names_of_space =
    (called "used") ∷ (called "tbytes") ∷ (called "fbytes") ∷ (called "abytes") ∷ (called "tfiles")
    ∷ (called "ffiles") ∷ (called "afiles") ∷ []

-- of users and groups, in attributes and settings (fattr3 and sattr3, RFC 1813) and in credentials
-- (RFC 5531, appendix A)
abbrev pub names_of_owners : List (List ℕ)
names_of_owners = (called "uid") ∷ (called "gid") ∷ []

-- A word `group` of a call is a group of its credential (RFC 5531, appendix A): no other item of a
-- call has this name. In a reply it tells whether another group of an export follows (RFC 1813,
-- section 5.2.5), and has no class.
abbrev pub class_of_group : ItemSpot → Option Class
class_of_group InCall = Some Owners
class_of_group _ = None

-- A size or a count of links has a class where a reply tells it of what others may change
-- meanwhile: in wcc_data (RFC 1813), and of a directory.
abbrev pub class_in_wcc : ItemSpot → Option Class
class_in_wcc InDirectory = Some Wcc
class_in_wcc InWcc = Some Wcc
class_in_wcc _ = None

abbrev pub class_of_word : ItemSpot → List ℕ → Option Class
class_of_word spot name =
    (if is_one_of names_of_times name then Some Times else
    (if is_one_of ((called "stamp") ∷ []) name then Some Stamps else
    (if is_one_of ((called "invarsec") ∷ []) name then Some Space else
    (if is_one_of names_of_owners name then Some Owners else
    (if is_one_of ((called "group") ∷ []) name then class_of_group spot else
    (if is_one_of ((called "nlink") ∷ []) name then class_in_wcc spot else
    None))))))

abbrev pub class_of_hyper : ItemSpot → List ℕ → Option Class
class_of_hyper spot name =
    (if is_one_of names_of_space name then Some Space else
    (if is_one_of ((called "fileid") ∷ []) name then Some Ids else
    (if is_one_of ((called "fsid") ∷ []) name then Some Fsids else
    (if is_one_of ((called "cookie") ∷ []) name then Some Cookies else
    (if is_one_of ((called "size") ∷ []) name then class_in_wcc spot else
    None)))))

abbrev pub class_of_fixed : List ℕ → Option Class
class_of_fixed name =
    (if is_one_of ((called "cookieverf") ∷ []) name then Some CookieVerifiers else
    (if is_one_of ((called "createverf") ∷ []) name then Some CreateVerifiers else
    None))

-- the class of an item at this spot, where it has one
abbrev pub class_of : ItemSpot → Item → Option Class
class_of spot (Word name n) = class_of_word spot name
class_of spot (Hyper name n) = class_of_hyper spot name
class_of spot (Fixed name bytes) = class_of_fixed name
class_of spot _ = None

-- the number of an item of a class; eight bytes are one as a hyper is
abbrev pub class_value : Item → ℕ
class_value (Word name n) = n
class_value (Hyper name n) = n
class_value (Fixed name bytes) = big_number 8 bytes
class_value _ = 0

-- Whether a 0 has a meaning of its own: it is the first cookie, and the verifier beside it (RFC
-- 1813, section 3.3.16).
abbrev pub zero_stays : Class → Bool
zero_stays Cookies = true
zero_stays CookieVerifiers = true
zero_stays _ = false
