pub mod CountExamples
