-- The lines that are printed: each is its label, its entries with one space before each, and one
-- newline at the end.
-- Example: The line of the queued frame of the worst start: `frames:`, one space, `2`,
-- `=`, `99`, a newline.
-- Source: this project's own; numbers are in plain decimal, as std prints them.
use Rattle.std.specs.Prelude.{ℕ, Bool, List, ◌++◌, codes, decimal, if◌then◌else◌}
use Rattle.std.specs.List.{flat_map}
use Rattle.stab_frames.specs.declared.frame.Frame.{Frame}
use Rattle.stab_core.specs.declared.origin.Origin.{Origin}
use Rattle.stab_core.specs.declared.origin.Origin.TheVariants.{Stray, Sent}
use Rattle.stab_core.specs.LinkState.{LinkState}

-- the end of a line
abbrev pub newline : List ℕ
newline = codes "\n"

-- one space, and the number
abbrev pub number_entry : ℕ → List ℕ
number_entry n = codes " " ++ decimal n

-- one space, and the frame as label=item
abbrev pub frame_entry : Frame → List ℕ
frame_entry f = codes " " ++ decimal f.label ++ codes "=" ++ decimal f.item

-- one space, and s with the place of a stray, or i with the place of an offered item
abbrev pub origin_entry : Origin → List ℕ
origin_entry (Stray place) = codes " s" ++ decimal place
origin_entry (Sent place) = codes " i" ++ decimal place

-- a line of numbers
unfoldable pub numbers_line : List ℕ → List ℕ → List ℕ
numbers_line label numbers = label ++ flat_map number_entry numbers ++ newline

-- a line of one number
unfoldable pub number_line : List ℕ → ℕ → List ℕ
number_line label number = label ++ number_entry number ++ newline

-- the line of the queued frames
unfoldable pub frames_line : List Frame → List ℕ
frames_line frames = codes "frames:" ++ flat_map frame_entry frames ++ newline

-- the line that says whether the link is closed
unfoldable pub closed_line : Bool → List ℕ
closed_line closed = if closed then codes "closed: yes\n" else codes "closed: no\n"

-- the eight lines of a link
unfoldable pub link_text : LinkState → List ℕ
link_text s =
    numbers_line (codes "delivered:") s.delivered
    ++ numbers_line (codes "offered:") s.offered
    ++ number_line (codes "acked:") s.acked
    ++ number_line (codes "send label:") s.send_label
    ++ number_line (codes "recv label:") s.recv_label
    ++ frames_line s.frames
    ++ numbers_line (codes "acks:") s.acks
    ++ closed_line s.closed

-- the line of the origins of the delivered items
unfoldable pub origins_text : List Origin → List ℕ
origins_text origins = codes "origins:" ++ flat_map origin_entry origins ++ newline
