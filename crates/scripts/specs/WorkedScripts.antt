-- Small scripts and what answers them, byte for byte: so the definitions of lines, replies, reports
-- and explanations are run. Ours, unless a source stands beside.
use Rattle.std.specs.Prelude.{ℕ, List, [], ◌∷◌, ◌++◌, codes}
use Rattle.meta_types.specs.Text.{Text}
use Rattle.meta_types.specs.Worked.{a, b, c}
use Rattle.scripts.specs.WholeScripts.{AnswersScript}

-- lines, each with its line feed
abbrev pub text_of : List Text → List ℕ
text_of [] = []
text_of (line ∷ lines) = line ++ (10 ∷ text_of lines)

abbrev pub done : Text
done = codes "{\"ok\":true}"

-- ---- requests, an empty line, and a line that is no request

abbrev pub requests : List Text
requests = codes "{\"op\":\"ns.add\",\"ns\":\"x\"}"
    ∷ codes ""
    ∷ codes " { \"ns\" : \"x\", \"op\" : \"ns.\\u0061dd\" } "
    ∷ codes "{\"op\":\"ns.list\"}"
    ∷ codes "{\"op\":\"ns.mend\"}"
    ∷ []

abbrev pub replies : List Text
replies = done
    ∷ codes "{\"fault\":3,\"name\":\"AlreadyExists\"}"
    ∷ codes "{\"names\":[\"x\"],\"ok\":true}"
    ∷ codes "{\"fault\":5,\"name\":\"BadLine\"}"
    ∷ []

-- these replies answer these requests; the empty line has no reply
abbrev pub RequestsAreAnswered : Type 0
RequestsAreAnswered = AnswersScript (text_of requests) (text_of replies)

-- ---- a collection: content that an image leads to stays, other content goes

abbrev pub adding : Text → Text → Text
adding digest more = codes "{\"op\":\"content.add\",\"ns\":\"x\",\"digest\":\"" ++ (digest ++ more)

abbrev pub collecting : List Text
collecting = codes "{\"op\":\"ns.add\",\"ns\":\"x\"}"
    ∷ adding b (codes "\"}")
    ∷ adding a
    (codes "\",\"labels\":{\"containerd.io/gc.ref.content.0\":\"" ++ (b ++ codes "\"}}"))
    ∷ adding c (codes "\"}")
    ∷ (codes "{\"op\":\"image.add\",\"ns\":\"x\",\"name\":\"i\",\"target\":\"" ++ (a ++ codes "\"}"))
    ∷ codes "{\"op\":\"gc.run\",\"at\":\"2024-03-01T00:00:00Z\"}"
    ∷ []

abbrev pub report_text : Text
report_text = codes "{\"ok\":true,\"report\":{\"backend\":{\"blobs\":[\""
    ++ (c
    ++ (codes "\"],\"ingests\":[],\"snapshots\":[]},\"dry\":false,"
    ++ (codes "\"failed\":{\"blobs\":[],\"ingests\":[],\"snapshots\":[]},\"ignored\":[],"
    ++ (codes "\"kept\":{\"containers\":0,\"content\":2,\"images\":1,\"ingests\":0,"
    ++ (codes "\"leases\":0,\"namespaces\":1,\"snapshots\":0},"
    ++ (codes "\"removed\":{\"content\":[[\"x\",\""
    ++ (c ++ codes "\"]],\"ingests\":[],\"leases\":[],\"snapshots\":[]},\"scanned\":2}}")))))))

abbrev pub collected : List Text
collected = done ∷ done ∷ done ∷ done ∷ done ∷ report_text ∷ []

-- these replies answer these lines; the last is the report, which names content c
abbrev pub ACollectionIsAnswered : Type 0
ACollectionIsAnswered = AnswersScript (text_of collecting) (text_of collected)

-- ---- an end: a lease keeps its content at it, and a nanosecond later did so last

abbrev pub asking : Text → Text
asking at = codes "{\"op\":\"gc.explain\",\"ns\":\"x\",\"type\":\"content\",\"resource\":\""
    ++ (a ++ (codes "\",\"at\":\"" ++ (at ++ codes "\"}")))

abbrev pub explaining : List Text
explaining = codes "{\"op\":\"ns.add\",\"ns\":\"x\"}"
    ∷ (codes "{\"op\":\"lease.add\",\"ns\":\"x\",\"id\":\"l\","
    ++ codes "\"labels\":{\"containerd.io/gc.expire\":\"2024-03-01T00:00:00Z\"}}")
    ∷ adding a (codes "\",\"lease\":\"l\"}")
    ∷ asking (codes "2024-03-01T00:00:00Z")
    ∷ asking (codes "2024-03-01T00:00:00.000000001Z")
    ∷ []

abbrev pub explanation_text : Text → Text → Text
explanation_text kept word = codes "{\"kept\":" ++ (kept
    ++ (codes ",\"ok\":true,\"path\":[{\"by\":\"" ++ (word
    ++ (codes "\",\"expire\":\"2024-03-01T00:00:00Z\",\"name\":\"l\",\"type\":\"leases\"},"
    ++ (codes "{\"by\":\"resource\",\"mode\":\"full\",\"name\":\""
    ++ (a ++ codes "\",\"type\":\"content\"}]}"))))))

abbrev pub explained : List Text
explained = done ∷ done ∷ done
    ∷ explanation_text (codes "true") (codes "root")
    ∷ explanation_text (codes "false") (codes "ended")
    ∷ []

-- these replies answer these lines: at the end the lease keeps the content, a nanosecond later it
-- has ended
abbrev pub AnEndIsExplained : Type 0
AnEndIsExplained = AnswersScript (text_of explaining) (text_of explained)
